-- Lines of held inputs.
use Rattle.std.proofs.Common.{◌≡◌, ◌≢◌, ℕ, Bool, true, false, List, [], ◌∷◌, ◌++◌, ◌+◌, length, get_or, refl, sym, ◌∙◌, ap, subst, codes, append_assoc, arith, length-append}
use Rattle.std.proofs.lemmas.List.{append_cancel_left, append_cancel_right, get_or-append-add}
use Rattle.report.specs.Reports.{Hold, IsBenchWord}
use Rattle.report.specs.Texts.{hold_line}
use Rattle.report.specs.inner.Lines.{IsHold, bit_text, hold_words}
use Rattle.report.proofs.ByteLemmas.{Above, above_append, above_by_test, above_lacks, above_less, word_above}
use Rattle.report.proofs.LineLemmas.{IsLined, IsTold, line_told}

bit_above : (bit : Bool) → Above 31 (bit_text bit)
bit_above false = above_by_test 31 (codes " 0") refl
bit_above true = above_by_test 31 (codes " 1") refl

hold_end : (name : List ℕ) (bit : Bool) → hold_line (record { name = name; bit = bit }) ≡ hold_words (record { name = name; bit = bit }) ++ 10 ∷ []
hold_end name false = ap (λ t. codes "hold " ++ t) (sym (append_assoc name (codes " 0") (10 ∷ [])))
hold_end name true = ap (λ t. codes "hold " ++ t) (sym (append_assoc name (codes " 1") (10 ∷ [])))

hold_above : (name : List ℕ) (bit : Bool) → IsBenchWord name → Above 31 (hold_words (record { name = name; bit = bit }))
hold_above name bit w =
    above_append 31 (codes "hold ") (name ++ bit_text bit) (above_by_test 31 (codes "hold ") refl)
    (above_append 31 name (bit_text bit) (above_less 32 31 name (omega arith) (word_above name w)) (bit_above bit))

pub hold_lined : IsLined IsHold hold_words hold_line
hold_lined = record { end = λ h. hold_end h.name h.bit; whole = λ h v. above_lacks 31 10 (hold_words h) (omega arith) (hold_above h.name h.bit v) }

-- the parts of a held input's words
other_bits : (xs ys : List ℕ) → xs ++ codes " 0" ≡ ys ++ codes " 1" → ⊥
other_bits xs ys e =
    let size : length xs ≡ length ys = omega (arith, length-append xs (codes " 0"), length-append ys (codes " 1"), ap length e) in
    let last : ◌≡◌ {A = ℕ} 48 49 =
    sym (get_or-append-add xs (codes " 0") 1 0) ∙ (ap (λ zs. get_or zs (length xs + 1) 0) e
    ∙ (ap (λ k. get_or (ys ++ codes " 1") (k + 1) 0) size ∙ get_or-append-add ys (codes " 1") 1 0)) in
    absurd (omega arith)

pub same_bits : (xs ys : List ℕ) (v w : Bool) → xs ++ bit_text v ≡ ys ++ bit_text w → (xs ≡ ys) × (v ≡ w)
same_bits xs ys false false e = (append_cancel_right xs ys (codes " 0") e, refl)
same_bits xs ys true true e = (append_cancel_right xs ys (codes " 1") e, refl)
same_bits xs ys false true e = absurd (other_bits xs ys e)
same_bits xs ys true false e = absurd (other_bits ys xs (sym e))

pub other_name : (line words name : List ℕ) (bit : Bool) → line ≡ codes "hold " ++ words → words ≡ name ++ bit_text bit → (IsBenchWord name → ⊥)
    → (h : Hold) → IsHold h → line ≢ hold_words h
other_name line words name bit l is none h v e =
    let same = append_cancel_left (codes "hold ") words (h.name ++ bit_text h.bit) (sym l ∙ e) in
    none (subst IsBenchWord (same_bits h.name name h.bit bit (sym same ∙ is)).0 v)

hold_same : (h k : Hold) → IsHold h → IsHold k → hold_words h ≡ hold_words k → h ≡ k
hold_same h k v w e =
    let parts = same_bits h.name k.name h.bit k.bit (append_cancel_left (codes "hold ") (h.name ++ bit_text h.bit) (k.name ++ bit_text k.bit) e) in
    ap (λ (t : List ℕ). record { name = t; bit = h.bit }) parts.0 ∙ ap (λ (b : Bool). record { name = k.name; bit = b }) parts.1

pub hold_told : IsTold IsHold hold_line
hold_told = line_told IsHold hold_words hold_line hold_lined hold_same
