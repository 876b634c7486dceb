-- A word, a number and the byte behind it, at the front of a text.
use Rattle.std.proofs.Common.{◌≡◌, ◌≢◌, ℕ, ◌<◌, ◌^◌, List, [], ◌∷◌, ◌++◌, sym, ◌∙◌, ap, subst, decimal, append_assoc, arith}
use Rattle.std.specs.List.{All}
use Rattle.std.proofs.lemmas.Fmt.{decimal_injective}
use Rattle.std.proofs.lemmas.List.{append_cancel_left}
use Rattle.plain_text.proofs.Parts.{byte_inside, same_parts}
use Rattle.report.specs.Beginnings.{Begins, NoneBegins, IsCount}
use Rattle.report.proofs.ByteLemmas.{above_lacks, number_above}
use Rattle.report.proofs.LineLemmas.{IsTold}
use Rattle.unknown_report.specs.Reports.{numbered}

module _ (mark : ℕ) (small : mark < 48) where
  number_lacks : (k : ℕ) → IsCount k → All (λ b. b ≢ mark) (decimal k)
  number_lacks k v = above_lacks 47 mark (decimal k) (omega (arith, small)) (number_above k v)

  rest_is : (word : List ℕ) (k : ℕ) (r : List ℕ) → numbered word mark k ++ r ≡ word ++ (decimal k ++ mark ∷ r)
  rest_is word k r = append_assoc word (decimal k ++ mark ∷ []) r ∙ ap (λ t. word ++ t) (append_assoc (decimal k) (mark ∷ []) r)

  pub number_told : (word : List ℕ) → IsTold IsCount (numbered word mark)
  number_told word x y r s v w e =
      let same = append_cancel_left word (decimal x ++ mark ∷ r) (decimal y ++ mark ∷ s) (sym (rest_is word x r) ∙ (e ∙ rest_is word y s)) in
      let parts = same_parts mark (decimal x) (decimal y) r s (number_lacks x v) (number_lacks y w) same in
      (decimal_injective x y v w parts.0, parts.1)

  module _ (word text : List ℕ) where
    pub no_word : ((rest : List ℕ) → text ≢ word ++ rest) → NoneBegins IsCount (numbered word mark) text
    no_word none k rest v e = none (decimal k ++ mark ∷ rest) (e ∙ rest_is word k rest)

    module _ (after : List ℕ) (is : text ≡ word ++ after) where
      after_is : (k : ℕ) (rest : List ℕ) → text ≡ numbered word mark k ++ rest → after ≡ decimal k ++ mark ∷ rest
      after_is k rest e = append_cancel_left word after (decimal k ++ mark ∷ rest) (sym is ∙ (e ∙ rest_is word k rest))

      pub no_mark : All (λ b. b ≢ mark) after → NoneBegins IsCount (numbered word mark) text
      no_mark lacks k rest v e = byte_inside mark (decimal k) rest (subst (All (λ b. b ≢ mark)) (after_is k rest e) lacks)

      module _ (digits rest : List ℕ) (parts : All (λ b. b ≢ mark) digits × (after ≡ digits ++ mark ∷ rest)) where
        pub no_number : ((k : ℕ) → k < 2 ^ 64 → digits ≢ decimal k) → NoneBegins IsCount (numbered word mark) text
        no_number none k more v e = none k v (same_parts mark digits (decimal k) rest more parts.0 (number_lacks k v) (sym parts.1 ∙ after_is k more e)).0

        pub number_found : (k : ℕ) → k < 2 ^ 64 → digits ≡ decimal k → Begins IsCount (numbered word mark) text k rest
        number_found k v same =
            (v, is ∙ (ap (λ t. word ++ t) (parts.1 ∙ ap (λ t. t ++ mark ∷ rest) same) ∙ sym (rest_is word k rest)))
