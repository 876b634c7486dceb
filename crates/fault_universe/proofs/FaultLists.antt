-- The two faults of each line, one after the other.
use Rattle.std.proofs.Common.{◌≡◌, ℕ, suc, zero, ◌+◌, ◌*◌, ◌/◌, ◌%◌, ◌<◌, ◌⊎◌, Bool, true, false, nat_eq, List, [], ◌∷◌, length, get_or, refl, sym, ◌∙◌, ap, Some, inl, inr, arith}
use Rattle.std.specs.List.{flat_map, slice_get}
use Rattle.std.proofs.lemmas.Option.{slice_get_read}
use Rattle.statement.specs.declared.lines.Line.{Line}
use Rattle.statement.specs.Faults.{faults_of}

pub length-faults : (lines : List Line) → length (flat_map faults_of lines) ≡ 2 * length lines
length-faults [] = refl
length-faults (l ∷ ls) = let h = length-faults ls in omega arith

-- the faults of the line at a place
pub pair_at : (lines : List Line) (k : ℕ) (line : Line) → slice_get lines k ≡ Some line
    → (slice_get (flat_map faults_of lines) (2 * k) ≡ Some (record { line = line; value = false }))
    × (slice_get (flat_map faults_of lines) (2 * k + 1) ≡ Some (record { line = line; value = true }))
pair_at [] k line e = absurd (cc)
pair_at (l ∷ ls) zero line e =
    let same : l ≡ line = cc in
    (ap (λ (m : Line). Some (record { line = m; value = false })) same, ap (λ (m : Line). Some (record { line = m; value = true })) same)
pair_at (l ∷ ls) (suc k) line e =
    let h = pair_at ls k line e in
    let even : 2 * suc k ≡ suc (suc (2 * k)) = omega arith in
    let odd : 2 * suc k + 1 ≡ suc (suc (2 * k + 1)) = omega arith in
    (ap (slice_get (flat_map faults_of (l ∷ ls))) even ∙ h.0, ap (slice_get (flat_map faults_of (l ∷ ls))) odd ∙ h.1)

halves : (i : ℕ) → ((i ≡ 2 * (i / 2)) × (i % 2 ≡ 0)) ⊎ ((i ≡ 2 * (i / 2) + 1) × (i % 2 ≡ 1))
halves i = grind arith

pub fault_at : (lines : List Line) (i k : ℕ) (line : Line) (v : Bool) → k ≡ i / 2 → k < length lines → line ≡ get_or lines k line → v ≡ nat_eq (i % 2) 1
    → slice_get (flat_map faults_of lines) i ≡ Some (record { line = line; value = v })
fault_at lines i k line v half l is odd =
    let h = pair_at lines k line (slice_get_read lines (length lines) k line refl l is) in
    elim (halves i) [
      | inl e ↦ ap (slice_get (flat_map faults_of lines)) (e.0 ∙ ap (λ j. 2 * j) (sym half)) ∙ (h.0 ∙ ap (λ b. Some (record { line = line; value = b })) (sym (odd ∙ ap (λ r. nat_eq r 1) e.1)))
      | inr e ↦ ap (slice_get (flat_map faults_of lines)) (e.0 ∙ ap (λ j. 2 * j + 1) (sym half)) ∙ (h.1 ∙ ap (λ b. Some (record { line = line; value = b })) (sym (odd ∙ ap (λ r. nat_eq r 1) e.1)))
    ]
