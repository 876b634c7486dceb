-- A cell stands in one chain at one place.
use Rattle.std.proofs.Common.{◌≡◌, ◌≢◌, ℕ, zero, suc, ◌+◌, ◌∙◌, inl, inr, List, [], ◌∷◌, ◌++◌, length, Some, refl, sym, ap, arith}
use Rattle.std.specs.List.{AllPairs, slice_get}
use Rattle.std.proofs.lemmas.Bool.{cases_order}
use Rattle.std.proofs.lemmas.Option.{get_or_from_slice_get, slice_get_within}
use Rattle.statement.specs.Netlists.{Netlist}
use Rattle.netlist.specs.Conditions.{IsSound}
use Rattle.netlist.proofs.Settling.{cells_distinct}
use Rattle.statement.specs.Tests.{cells_of}
use Rattle.scan_insert.specs.Scanned.{AreChainsOf}
use Rattle.scan_insert.proofs.Concrete.{are_dealt}

-- ---- what stands once

-- each stands at one place
abbrev pub Once : List ℕ → Type 0
Once xs = (i j x : ℕ) → slice_get xs i ≡ Some x → slice_get xs j ≡ Some x → i ≡ j

once_by : (xs : List ℕ) → AllPairs (λ x y. x ≢ y) xs → Once xs
once_by xs apart i j x p q =
    let a = get_or_from_slice_get xs i x 0 p in
    let b = get_or_from_slice_get xs j x 0 q in
    let k = slice_get_within xs i x p in
    let l = slice_get_within xs j x q in
    elim (cases_order i j) [
      | inl same ↦ same
      | inr o ↦ elim o [
        | inl lower ↦ absurd (apart i j 0 lower l (a ∙ sym b))
        | inr higher ↦ absurd (apart j i 0 higher k (b ∙ sym a))
      ]
    ]

in_left : (xs ys : List ℕ) (k x : ℕ) → slice_get xs k ≡ Some x → slice_get (xs ++ ys) k ≡ Some x
in_left [] ys k x e = cc
in_left (z ∷ zs) ys zero x e = e
in_left (z ∷ zs) ys (suc k) x e = in_left zs ys k x e

in_right : (xs ys : List ℕ) (k x : ℕ) → slice_get ys k ≡ Some x → slice_get (xs ++ ys) (length xs + k) ≡ Some x
in_right [] ys k x e = let i : 0 + k ≡ k = omega arith in ap (λ (i : ℕ). slice_get ys i) i ∙ e
in_right (z ∷ zs) ys k x e =
    let i : suc (length zs) + k ≡ suc (length zs + k) = omega arith in
    ap (λ (i : ℕ). slice_get (z ∷ zs ++ ys) i) i ∙ in_right zs ys k x e

-- a cell of a chain stands among the cells of all
among : (chains : List (List ℕ)) (c k x : ℕ) (chain : List ℕ) → slice_get chains c ≡ Some chain → slice_get chain k ≡ Some x
    → (m : ℕ) × (slice_get (cells_of chains) m ≡ Some x)
among [] c k x chain p q = absurd (cc)
among (own ∷ chains) zero k x chain p q =
    let same : own ≡ chain = cc in
    (k, in_left own (cells_of chains) k x (ap (λ (cs : List ℕ). slice_get cs k) same ∙ q))
among (own ∷ chains) (suc c) k x chain p q =
    let rest = among chains c k x chain p q in
    (length own + rest.0, in_right own (cells_of chains) rest.0 x rest.1)

tail_once : (xs ys : List ℕ) → Once (xs ++ ys) → Once ys
tail_once xs ys once i j x p q =
    let e = once (length xs + i) (length xs + j) x (in_right xs ys i x p) (in_right xs ys j x q) in
    omega arith

-- so it stands in one chain at one place
pub place_once : (chains : List (List ℕ)) → Once (cells_of chains) → (c k d j x : ℕ) (chain other : List ℕ)
    → slice_get chains c ≡ Some chain → slice_get chain k ≡ Some x → slice_get chains d ≡ Some other → slice_get other j ≡ Some x
    → (c ≡ d) × (k ≡ j)
place_once [] once c k d j x chain other p q r s = absurd (cc)
place_once (own ∷ chains) once zero k zero j x chain other p q r s =
    let a : own ≡ chain = cc in
    let b : own ≡ other = cc in
    let at = in_left own (cells_of chains) k x (ap (λ (cs : List ℕ). slice_get cs k) a ∙ q) in
    let too = in_left own (cells_of chains) j x (ap (λ (cs : List ℕ). slice_get cs j) b ∙ s) in
    (refl, once k j x at too)
place_once (own ∷ chains) once zero k (suc d) j x chain other p q r s =
    let a : own ≡ chain = cc in
    let here : slice_get own k ≡ Some x = ap (λ (cs : List ℕ). slice_get cs k) a ∙ q in
    let lt = slice_get_within own k x here in
    let rest = among chains d j x other r s in
    let e = once k (length own + rest.0) x (in_left own (cells_of chains) k x here) (in_right own (cells_of chains) rest.0 x rest.1) in
    absurd (omega arith)
place_once (own ∷ chains) once (suc c) k zero j x chain other p q r s =
    let b : own ≡ other = cc in
    let here : slice_get own j ≡ Some x = ap (λ (cs : List ℕ). slice_get cs j) b ∙ s in
    let lt = slice_get_within own j x here in
    let rest = among chains c k x chain p q in
    let e = once j (length own + rest.0) x (in_left own (cells_of chains) j x here) (in_right own (cells_of chains) rest.0 x rest.1) in
    absurd (omega arith)
place_once (own ∷ chains) once (suc c) k (suc d) j x chain other p q r s =
    let w = place_once chains (tail_once own (cells_of chains) once) c k d j x chain other p q r s in
    (ap suc w.0, w.1)

-- each cell of a netlist's chains stands once
pub cells_once : (n : Netlist) → IsSound n → (chains : List (List ℕ)) → AreChainsOf n chains → Once (cells_of chains)
cells_once n sound chains are = once_by (cells_of chains) (cells_distinct n sound.formed.numbered (cells_of chains) (are_dealt n chains are).all)
