-- Lines of unknown inputs.
use Rattle.std.proofs.Common.{◌≡◌, ◌≢◌, ℕ, List, ◌∷◌, ◌++◌, sym, ◌∙◌, ap, subst, codes, append_assoc, arith}
use Rattle.std.specs.List.{All}
use Rattle.std.proofs.lemmas.List.{append_cancel_left}
use Rattle.plain_text.proofs.Parts.{byte_inside, same_parts}
use Rattle.report.specs.Beginnings.{Begins, NoneBegins}
use Rattle.report.specs.Reports.{IsBenchWord}
use Rattle.report.proofs.ByteLemmas.{above_lacks, word_above}
use Rattle.report.proofs.LineLemmas.{IsTold}
use Rattle.unknown_report.specs.Reports.{unknown_line}

name_lacks : (name : List ℕ) → IsBenchWord name → All (λ b. b ≢ 10) name
name_lacks name v = above_lacks 32 10 name (omega arith) (word_above name v)

rest_is : (name rest : List ℕ) → unknown_line name ++ rest ≡ codes "unknown " ++ (name ++ 10 ∷ rest)
rest_is name rest = append_assoc (codes "unknown ") (name ++ codes "\n") rest ∙ ap (λ t. codes "unknown " ++ t) (append_assoc name (codes "\n") rest)

pub unknown_told : IsTold IsBenchWord unknown_line
unknown_told x y r s v w e =
    let same = append_cancel_left (codes "unknown ") (x ++ 10 ∷ r) (y ++ 10 ∷ s) (sym (rest_is x r) ∙ (e ∙ rest_is y s)) in
    same_parts 10 x y r s (name_lacks x v) (name_lacks y w) same

module _ (text : List ℕ) where
  pub no_unknown : ((rest : List ℕ) → text ≢ codes "unknown " ++ rest) → NoneBegins IsBenchWord unknown_line text
  no_unknown none name rest v e = none (name ++ 10 ∷ rest) (e ∙ rest_is name rest)

  module _ (after : List ℕ) (is : text ≡ codes "unknown " ++ after) where
    after_is : (name rest : List ℕ) → text ≡ unknown_line name ++ rest → after ≡ name ++ 10 ∷ rest
    after_is name rest e = append_cancel_left (codes "unknown ") after (name ++ 10 ∷ rest) (sym is ∙ (e ∙ rest_is name rest))

    pub no_end : All (λ b. b ≢ 10) after → NoneBegins IsBenchWord unknown_line text
    no_end lacks name rest v e = byte_inside 10 name rest (subst (All (λ b. b ≢ 10)) (after_is name rest e) lacks)

    module _ (word rest : List ℕ) (parts : All (λ b. b ≢ 10) word × (after ≡ word ++ 10 ∷ rest)) where
      pub no_name : (IsBenchWord word → ⊥) → NoneBegins IsBenchWord unknown_line text
      no_name none name more v e =
          none (subst IsBenchWord (sym (same_parts 10 word name rest more parts.0 (name_lacks name v) (sym parts.1 ∙ after_is name more e)).0) v)

      pub unknown_found : IsBenchWord word → Begins IsBenchWord unknown_line text word rest
      unknown_found v = (v, is ∙ (ap (λ t. codes "unknown " ++ t) parts.1 ∙ sym (rest_is word rest)))
