-- Numbers in a row.
use Rattle.std.proofs.Common.{◌≡◌, ℕ, suc, zero, ◌+◌, ◌<◌, List, [], ◌∷◌, ◌++◌, map, length, get_or, refl, sym, ◌∙◌, ap, arith}
use Rattle.std.specs.List.{Contains}
use Rattle.std.proofs.lemmas.List.{ext_get_or, length-map, get_or-map}
use Rattle.statement.specs.Netlists.{Netlist, signals}
use Rattle.netlist.specs.Conditions.{IsNumbered}
use Rattle.statement.specs.Runs.{numbers_from}

pub length-numbers_from : (a m : ℕ) → length (numbers_from a m) ≡ m
length-numbers_from a zero = refl
length-numbers_from a (suc m) = ap suc (length-numbers_from (a + 1) m)

pub get_or-numbers_from : (a m k d : ℕ) → k < m → get_or (numbers_from a m) k d ≡ a + k
get_or-numbers_from a zero k d l = absurd (omega arith)
get_or-numbers_from a (suc m) zero d l = omega arith
get_or-numbers_from a (suc m) (suc k) d l = omega (arith, get_or-numbers_from (a + 1) m k d (omega arith))

pub numbers_from-append : (a b m k : ℕ) → b ≡ a + m → numbers_from a m ++ numbers_from b k ≡ numbers_from a (m + k)
numbers_from-append a b zero k e =
    let first : b ≡ a = omega arith in
    let count : zero + k ≡ k = omega arith in
    ap (λ x. numbers_from x k) first ∙ ap (numbers_from a) (sym count)
numbers_from-append a b (suc m) k e =
    let count : suc m + k ≡ suc (m + k) = omega arith in
    ap (λ r. a ∷ r) (numbers_from-append (a + 1) b m k (omega arith)) ∙ ap (numbers_from a) (sym count)

-- one behind the other
pub then_one : (a b m : ℕ) → b ≡ a + m → numbers_from a m ++ b ∷ [] ≡ numbers_from a (m + 1)
then_one a b m e = numbers_from-append a b m 1 e

pub contains_numbers : (a m x : ℕ) → Contains (numbers_from a m) x → (c : ℕ) × (c < m) × (x ≡ a + c)
contains_numbers a m x c =
    let l : c.0 < m = omega (arith, c.1, length-numbers_from a m) in
    (c.0, l, sym c.2 ∙ get_or-numbers_from a m c.0 x l)

pub numbers_contain : (a m c : ℕ) → c < m → Contains (numbers_from a m) (a + c)
numbers_contain a m c l = (c, omega (arith, length-numbers_from a m), get_or-numbers_from a m c (a + c) l)

-- a list whose elements are their places
pub numbers_from_places : (xs : List ℕ) → ((k : ℕ) → k < length xs → get_or xs k 0 ≡ k) → xs ≡ numbers_from 0 (length xs)
numbers_from_places xs h =
    ext_get_or 0 xs (numbers_from 0 (length xs)) (sym (length-numbers_from 0 (length xs)))
    (λ k l. let e = get_or-numbers_from 0 (length xs) k 0 l in let f = h k l in omega arith)

pub places_from_numbers : (n : Netlist) (m : ℕ) → signals n ≡ numbers_from 0 m → IsNumbered n
places_from_numbers n m e k l =
    let size : length (signals n) ≡ m = ap length e ∙ length-numbers_from 0 m in
    ap (λ xs. get_or xs k 0) e ∙ (get_or-numbers_from 0 m k 0 (omega arith) ∙ omega arith)

pub map-numbers_from : {X : Type 0} (xs : List X) (d : X) → map (λ c. get_or xs c d) (numbers_from 0 (length xs)) ≡ xs
map-numbers_from xs d =
    ext_get_or d (map (λ c. get_or xs c d) (numbers_from 0 (length xs))) xs (length-map (numbers_from 0 (length xs)) (λ c. get_or xs c d) ∙ length-numbers_from 0 (length xs))
    (λ k l.
    let size = length-numbers_from 0 (length xs) in
    let w : k < length (numbers_from 0 (length xs)) = omega (arith, length-map (numbers_from 0 (length xs)) (λ c. get_or xs c d)) in
    get_or-map (λ c. get_or xs c d) (numbers_from 0 (length xs)) k 0 d w
    ∙ ap (λ c. get_or xs c d) (get_or-numbers_from 0 (length xs) k 0 (omega arith) ∙ omega arith))
