-- The decided bits by number, and levels from the last one on.
use Rattle.std.proofs.Common.{◌≡◌, ◌≤◌, ◌<◌, ◌+◌, ◌-◌, ℕ, zero, suc, Bool, List, [], ◌∷◌, ◌++◌, length, get_or, set, reverse, Option, Some, None, refl, ◌∙◌, ap, arith}
use Rattle.std.proofs.lemmas.List.{reverse-append, length-reverse, get_or-reverse}
use Rattle.pair_sim.specs.declared.levels.Level.{Level}
use Rattle.pair_sim.specs.inner.Levels.{decided_count, is_contradicted}

pub decided_set : (row : List (Option Bool)) (x : ℕ) (b : Bool) → x < length row → get_or row x None ≡ None → decided_count (set row x (Some b)) ≡ decided_count row + 1
decided_set [] x b l e = absurd (omega arith)
decided_set (None ∷ row) zero b l e = refl
decided_set (Some c ∷ row) zero b l e = absurd cc
decided_set (None ∷ row) (suc x) b l e = decided_set row x b (omega arith) e
decided_set (Some c ∷ row) (suc x) b l e = let h = decided_set row x b (omega arith) e in omega arith

pub decided_unset : (row : List (Option Bool)) (x : ℕ) (b : Bool) → x < length row → get_or row x None ≡ Some b → decided_count (set row x None) + 1 ≡ decided_count row
decided_unset [] x b l e = absurd (omega arith)
decided_unset (None ∷ row) zero b l e = absurd cc
decided_unset (Some c ∷ row) zero b l e = refl
decided_unset (None ∷ row) (suc x) b l e = decided_unset row x b (omega arith) e
decided_unset (Some c ∷ row) (suc x) b l e = let h = decided_unset row x b (omega arith) e in omega arith

pub decided_few : (row : List (Option Bool)) → decided_count row ≤ length row
decided_few [] = omega arith
decided_few (None ∷ row) = omega (arith, decided_few row)
decided_few (Some b ∷ row) = omega (arith, decided_few row)

pub undecided_none : (row : List (Option Bool)) → ((x : ℕ) → get_or row x None ≡ None) → decided_count row ≡ 0
undecided_none [] h = refl
undecided_none (None ∷ row) h = undecided_none row (λ x. h (suc x))
undecided_none (Some b ∷ row) h = absurd (let e = h 0 in cc)

pub reverse_push : (vs : List Level) (v : Level) → reverse (vs ++ v ∷ []) ≡ v ∷ reverse vs
reverse_push vs v = reverse-append vs (v ∷ [])
