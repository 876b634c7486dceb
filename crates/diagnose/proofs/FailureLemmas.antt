-- Lines of failures.
use Rattle.std.proofs.Common.{◌≡◌, ◌≢◌, ℕ, ◌^◌, ◌<◌, List, [], ◌∷◌, ◌++◌, refl, sym, ◌∙◌, ap, subst, codes, decimal, append_assoc, arith}
use Rattle.std.specs.List.{All}
use Rattle.std.proofs.lemmas.Fmt.{decimal_injective}
use Rattle.plain_text.proofs.Parts.{byte_inside, same_parts}
use Rattle.report.specs.Reports.{IsBenchWord}
use Rattle.report.proofs.ByteLemmas.{above_append, above_by_test, above_lacks, above_less, number_above, word_above}
use Rattle.report.proofs.LineLemmas.{IsLined, IsTold, line_told}
use Rattle.diagnose.specs.Failures.{Failing, IsFailing}
use Rattle.diagnose.specs.Texts.{failing_line}
use Rattle.diagnose.specs.inner.Words.{failure_words}

pub failure_lined : IsLined IsFailing failure_words failing_line
failure_lined = record {
  end = λ f.
      ap (λ t. decimal f.cycle ++ t) (sym (append_assoc (codes " ") f.signal (10 ∷ []))) ∙ sym (append_assoc (decimal f.cycle) (codes " " ++ f.signal) (10 ∷ []));
  whole = λ f v.
      above_lacks 31 10 (failure_words f) (omega arith)
      (above_append 31 (decimal f.cycle) (codes " " ++ f.signal) (above_less 47 31 (decimal f.cycle) (omega arith) (number_above f.cycle v.small))
      (above_append 31 (codes " ") f.signal (above_by_test 31 (codes " ") refl) (above_less 32 31 f.signal (omega arith) (word_above f.signal v.word))));
}

pub number_whole : (c : ℕ) → c < 2 ^ 64 → All (λ b. b ≢ 32) (decimal c)
number_whole c l = above_lacks 47 32 (decimal c) (omega arith) (number_above c l)

failure_same : (f g : Failing) → IsFailing f → IsFailing g → failure_words f ≡ failure_words g → f ≡ g
failure_same f g v w e =
    let p = same_parts 32 (decimal f.cycle) (decimal g.cycle) f.signal g.signal (number_whole f.cycle v.small) (number_whole g.cycle w.small) e in
    ap (λ (c : ℕ). record { cycle = c; signal = f.signal }) (decimal_injective f.cycle g.cycle v.small w.small p.0)
    ∙ ap (λ (s : List ℕ). record { cycle = g.cycle; signal = s }) p.1

pub failure_told : IsTold IsFailing failing_line
failure_told = line_told IsFailing failure_words failing_line failure_lined failure_same

-- a line without a blank, with no number before it, or with no name behind it
pub no_blank : (line : List ℕ) → All (λ b. b ≢ 32) line → (f : Failing) → IsFailing f → line ≢ failure_words f
no_blank line none f v e = byte_inside 32 (decimal f.cycle) f.signal (subst (All (λ b. b ≢ 32)) e none)

module _ (line digits signal : List ℕ) (whole : All (λ b. b ≢ 32) digits) (is : line ≡ digits ++ 32 ∷ signal) where
  parts : (f : Failing) → IsFailing f → line ≡ failure_words f → (digits ≡ decimal f.cycle) × (signal ≡ f.signal)
  parts f v e = same_parts 32 digits (decimal f.cycle) signal f.signal whole (number_whole f.cycle v.small) (sym is ∙ e)

  pub no_number : ((k : ℕ) → k < 2 ^ 64 → digits ≢ decimal k) → (f : Failing) → IsFailing f → line ≢ failure_words f
  no_number none f v e = none f.cycle v.small (parts f v e).0

  pub no_name : (IsBenchWord signal → ⊥) → (f : Failing) → IsFailing f → line ≢ failure_words f
  no_name none f v e = none (subst IsBenchWord (sym (parts f v e).1) v.word)
