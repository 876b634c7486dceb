-- The known and the unknown part of a list, and a list of both.
use Rattle.std.proofs.Common.{◌≡◌, ℕ, suc, zero, ◌+◌, ◌≤◌, Bool, true, false, List, [], ◌∷◌, map, length, Some, refl, ap, inl, inr, arith}
use Rattle.std.specs.List.{AllZip, Contains}
use Rattle.netlist.proofs.Lists.{contains_tail, contains_cases, contains_nil}
use Rattle.statement.specs.declared.kinds.Tri.TheVariants.{X}
use Rattle.statement.specs.Patterns.{Holds, Obeys}
use Rattle.statement.specs.Values.{known}
use Rattle.netlist.specs.ThreeValues.{AreAllowed}
use Rattle.tri.proofs.Choices.{known_allows_itself}
use Rattle.unknown_inputs.specs.Unknowns.{Unknowns, known_part, unknown_part, holds_at_zero}

pub parts_length : {V : Type 0} (us : Unknowns) (vs : List V) → length (known_part us vs) + length (unknown_part us vs) ≡ length vs
parts_length [] vs = omega arith
parts_length (u ∷ us) [] = refl
parts_length (true ∷ us) (v ∷ vs) = omega (arith, parts_length us vs)
parts_length (false ∷ us) (v ∷ vs) = omega (arith, parts_length us vs)

pub known_part-map : {V W : Type 0} (g : V → W) (us : Unknowns) (vs : List V) → known_part us (map g vs) ≡ map g (known_part us vs)
known_part-map g [] vs = refl
known_part-map g (u ∷ us) [] = refl
known_part-map g (true ∷ us) (v ∷ vs) = known_part-map g us vs
known_part-map g (false ∷ us) (v ∷ vs) = ap (λ r. g v ∷ r) (known_part-map g us vs)

pub unknown_part-map : {V W : Type 0} (g : V → W) (us : Unknowns) (vs : List V) → unknown_part us (map g vs) ≡ map g (unknown_part us vs)
unknown_part-map g [] vs = refl
unknown_part-map g (u ∷ us) [] = refl
unknown_part-map g (true ∷ us) (v ∷ vs) = ap (λ r. g v ∷ r) (unknown_part-map g us vs)
unknown_part-map g (false ∷ us) (v ∷ vs) = unknown_part-map g us vs

pub known_member : {V : Type 0} (us : Unknowns) (vs : List V) (x : V) → Contains (known_part us vs) x → Contains vs x
known_member [] vs x c = c
known_member (u ∷ us) [] x c = c
known_member (true ∷ us) (v ∷ vs) x c = contains_tail v x vs (known_member us vs x c)
known_member (false ∷ us) (v ∷ vs) x c = elim (contains_cases v x (known_part us vs) c) [
  | inl e ↦ (zero, omega arith, e)
  | inr r ↦ contains_tail v x vs (known_member us vs x r)
]

pub unknown_member : {V : Type 0} (us : Unknowns) (vs : List V) (x : V) → Contains (unknown_part us vs) x → Contains vs x
unknown_member [] vs x c = absurd (contains_nil x c)
unknown_member (u ∷ us) [] x c = c
unknown_member (true ∷ us) (v ∷ vs) x c = elim (contains_cases v x (unknown_part us vs) c) [
  | inl e ↦ (zero, omega arith, e)
  | inr r ↦ contains_tail v x vs (unknown_member us vs x r)
]
unknown_member (false ∷ us) (v ∷ vs) x c = contains_tail v x vs (unknown_member us vs x c)

-- ---- one value for each of these inputs: these at the known ones, and the blank one at the others
abbrev pub merged : {V : Type 0} → V → Unknowns → List ℕ → List V → List V
merged blank [] xs vs = vs
merged blank (u ∷ us) [] vs = []
merged blank (true ∷ us) (x ∷ xs) vs = blank ∷ merged blank us xs vs
merged blank (false ∷ us) (x ∷ xs) [] = []
merged blank (false ∷ us) (x ∷ xs) (v ∷ vs) = v ∷ merged blank us xs vs

pub length-merged : {V : Type 0} (blank : V) (us : Unknowns) (xs : List ℕ) (vs : List V) → length vs ≡ length (known_part us xs) → length (merged blank us xs vs) ≡ length xs
length-merged blank [] xs vs e = e
length-merged blank (u ∷ us) [] vs e = refl
length-merged blank (true ∷ us) (x ∷ xs) vs e = ap suc (length-merged blank us xs vs e)
length-merged blank (false ∷ us) (x ∷ xs) [] e = absurd (omega (arith, e))
length-merged blank (false ∷ us) (x ∷ xs) (v ∷ vs) e = ap suc (length-merged blank us xs vs (omega (arith, e)))

pub known_part-merged : {V : Type 0} (blank : V) (us : Unknowns) (xs : List ℕ) (vs : List V) → length vs ≡ length (known_part us xs) → known_part us (merged blank us xs vs) ≡ vs
known_part-merged blank [] xs vs e = refl
known_part-merged blank (u ∷ us) [] [] e = refl
known_part-merged blank (u ∷ us) [] (v ∷ vs) e = absurd (omega (arith, e))
known_part-merged blank (true ∷ us) (x ∷ xs) vs e = known_part-merged blank us xs vs e
known_part-merged blank (false ∷ us) (x ∷ xs) [] e = refl
known_part-merged blank (false ∷ us) (x ∷ xs) (v ∷ vs) e = ap (λ r. v ∷ r) (known_part-merged blank us xs vs (omega (arith, e)))

-- what holds at the known inputs, and of the blank value at the others, holds of the merged list
pub zip_merged : {V W : Type 0} (S : ℕ → V → Type 0) (blank : V) (us : Unknowns) (xs : List ℕ) (ks : List V) (vs : List W)
    → AllZip S (known_part us xs) ks → AllZip (λ x v. S x blank) (unknown_part us xs) vs → AllZip S xs (merged blank us xs ks)
zip_merged S blank [] xs ks vs h i = h
zip_merged S blank (u ∷ us) [] ks vs h i = tt
zip_merged S blank (true ∷ us) (x ∷ xs) ks [] h i = absurd i
zip_merged S blank (true ∷ us) (x ∷ xs) ks (v ∷ vs) h i = (i.0, zip_merged S blank us xs ks vs h i.1)
zip_merged S blank (false ∷ us) (x ∷ xs) [] vs h i = absurd h
zip_merged S blank (false ∷ us) (x ∷ xs) (k ∷ ks) vs h i = (h.0, zip_merged S blank us xs ks vs h.1 i)

pub bits_allowed : (bs : List Bool) → AreAllowed (map known bs) (map (λ b. b) bs)
bits_allowed [] = tt
bits_allowed (b ∷ bs) = (known_allows_itself b, bits_allowed bs)

-- X at the unknown inputs, and the bits at the known ones, allow the whole list of bits
pub merged_allowed : (us : Unknowns) (xs : List ℕ) (bs : List Bool) → length xs ≡ length bs → AreAllowed (merged X us xs (map known (known_part us bs))) (map (λ b. b) bs)
merged_allowed [] xs bs e = bits_allowed bs
merged_allowed (u ∷ us) [] [] e = tt
merged_allowed (u ∷ us) [] (b ∷ bs) e = absurd (omega (arith, e))
merged_allowed (u ∷ us) (x ∷ xs) [] e = absurd (omega (arith, e))
merged_allowed (true ∷ us) (x ∷ xs) (b ∷ bs) e = (refl, merged_allowed us xs bs (omega (arith, e)))
merged_allowed (false ∷ us) (x ∷ xs) (b ∷ bs) e = (known_allows_itself b, merged_allowed us xs bs (omega (arith, e)))

-- ---- held inputs
same_hold : {V : Type 0} (x y : V) → Some x ≡ Some y → x ≡ y
same_hold x y e = cc

-- where the known bits obey the holds, the list with 0 at the unknown inputs does, held there too
pub merged_obeys : (us : Unknowns) (holds : Holds) (xs : List ℕ) (bs : List Bool) → length us ≤ length xs → length bs ≡ length (known_part us xs)
    → Obeys (known_part us holds) bs → Obeys (holds_at_zero us holds) (merged false us xs bs)
merged_obeys [] holds xs bs l e h k b g = h k b g
merged_obeys (u ∷ us) [] xs bs l e h k b g = cc
merged_obeys (u ∷ us) (o ∷ os) [] bs l e h k b g = absurd (omega (arith, l))
merged_obeys (true ∷ us) (o ∷ os) (x ∷ xs) bs l e h zero b g = same_hold (Some false) (Some b) g
merged_obeys (true ∷ us) (o ∷ os) (x ∷ xs) bs l e h (suc k) b g = merged_obeys us os xs bs (omega (arith, l)) e h k b g
merged_obeys (false ∷ us) (o ∷ os) (x ∷ xs) [] l e h k b g = absurd (omega (arith, e))
merged_obeys (false ∷ us) (o ∷ os) (x ∷ xs) (c ∷ cs) l e h zero b g = h zero b g
merged_obeys (false ∷ us) (o ∷ os) (x ∷ xs) (c ∷ cs) l e h (suc k) b g = merged_obeys us os xs cs (omega (arith, l)) (omega (arith, e)) (λ j. h (suc j)) k b g
