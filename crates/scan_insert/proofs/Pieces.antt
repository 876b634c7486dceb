-- A list in pieces.
use Rattle.std.proofs.Common.{◌≡◌, ℕ, suc, zero, ◌+◌, ◌<◌, ◌++◌, max, List, [], ◌∷◌, length, take, drop, get_or, slice_get, Some, refl, sym, ◌∙◌, ap, subst, arith, length-drop, length-take}
use Rattle.std.proofs.lemmas.List.{drop-drop, take-append-drop, nil_from_length}
use Rattle.std.specs.List.{Contains}
use Rattle.std.proofs.lemmas.List.Elements.{Contains-append_left, Contains-append_right}
use Rattle.scan_insert.specs.Chains.{pieces}
use Rattle.statement.specs.Tests.{cells_of, longest_of}

abbrev pub total : List ℕ → ℕ
total [] = 0
total (n ∷ ns) = n + total ns

abbrev pub greatest : List ℕ → ℕ
greatest [] = 0
greatest (n ∷ ns) = max n (greatest ns)

pub length-pieces : (ns xs : List ℕ) → length (pieces ns xs) ≡ length ns
length-pieces [] xs = refl
length-pieces (n ∷ ns) xs = ap suc (length-pieces ns (drop n xs))

pub get-pieces : (ns xs : List ℕ) (c : ℕ) → c < length ns
    → slice_get (pieces ns xs) c ≡ Some (take (get_or ns c 0) (drop (total (take c ns)) xs))
get-pieces [] xs c l = absurd (omega arith)
get-pieces (n ∷ ns) xs zero l = refl
get-pieces (n ∷ ns) xs (suc c) l =
    get-pieces ns (drop n xs) c (omega arith)
    ∙ ap (λ r. Some (take (get_or ns c 0) r)) (drop-drop (total (take c ns)) n xs)

-- the pieces make the list again
pub cells_of-pieces : (ns xs : List ℕ) → total ns ≡ length xs → cells_of (pieces ns xs) ≡ xs
cells_of-pieces [] xs e = sym (nil_from_length xs (sym e))
cells_of-pieces (n ∷ ns) xs e =
    ap (λ r. take n xs ++ r) (cells_of-pieces ns (drop n xs) (omega (arith, length-drop n xs)))
    ∙ take-append-drop n xs

pub longest_of-pieces : (ns xs : List ℕ) → total ns ≡ length xs → longest_of (pieces ns xs) ≡ greatest ns
longest_of-pieces [] xs e = refl
longest_of-pieces (n ∷ ns) xs e =
    let first : length (take n xs) ≡ n = omega (arith, length-take n xs) in
    let rest = longest_of-pieces ns (drop n xs) (omega (arith, length-drop n xs)) in
    cc
