-- Elements of lists made of lists.
use Rattle.std.proofs.Common.{◌≡◌, ℕ, suc, zero, ◌<◌, List, [], ◌∷◌, length, sym, subst, Some, inl, inr, arith}
use Rattle.std.specs.List.{Contains, flat_map, slice_get}
use Rattle.std.proofs.lemmas.Option.{get_or_from_slice_get}
use Rattle.std.proofs.lemmas.List.Elements.{Contains-append_left, Contains-append_right, Contains-append_cases}
use Rattle.netlist.proofs.Lists.{contains_cases, contains_head, contains_nil, contains_tail}

pub Contains-flat_map : {X Y : Type 0} (f : X → List Y) (xs : List X) (x : X) (y : Y) → Contains xs x → Contains (f x) y → Contains (flat_map f xs) y
Contains-flat_map f [] x y c d = absurd (contains_nil x c)
Contains-flat_map f (z ∷ xs) x y c d = elim (contains_cases z x xs c) [
  | inl e ↦ Contains-append_left (f z) (flat_map f xs) y (subst (λ w. Contains (f w) y) (sym e) d)
  | inr r ↦ Contains-append_right (f z) (flat_map f xs) y (Contains-flat_map f xs x y r d)
]

pub flat_map-source : {X Y : Type 0} (f : X → List Y) (xs : List X) (y : Y) → Contains (flat_map f xs) y → (x : X) × Contains xs x × Contains (f x) y
flat_map-source f [] y c = absurd (contains_nil y c)
flat_map-source f (x ∷ xs) y c = elim (Contains-append_cases (f x) (flat_map f xs) y c) [
  | inl l ↦ (x, contains_head x xs, l)
  | inr r ↦ let m = flat_map-source f xs y r in (m.0, contains_tail x m.0 xs m.1, m.2)
]

pub slice_get_below : {X : Type 0} (xs : List X) (k : ℕ) (x : X) → slice_get xs k ≡ Some x → k < length xs
slice_get_below [] k x e = absurd (cc)
slice_get_below (y ∷ ys) zero x e = omega arith
slice_get_below (y ∷ ys) (suc k) x e = let l = slice_get_below ys k x e in omega arith

pub contains_at : {X : Type 0} (xs : List X) (k : ℕ) (x : X) → slice_get xs k ≡ Some x → Contains xs x
contains_at xs k x e = (k, slice_get_below xs k x e, get_or_from_slice_get xs k x x e)

pub contains_some : {X : Type 0} (xs : List X) (x : X) → Contains xs x → 0 < length xs
contains_some xs x c = omega (arith, c.1)
