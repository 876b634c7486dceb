-- Names of signals and pins, one by one; files that fit.
use Rattle.std.proofs.Common.{◌≡◌, ◌∙◌, ◌+◌, ◌<◌, ◌≤◌, ℕ, zero, suc, Bool, true, false, not, List, [], ◌∷◌, ◌++◌, ap, sym, refl, subst, length, take, drop, map, get_or, arith}
use Rattle.std.specs.Prelude.{◌↔◌, ◌||◌, Some, slice_get, slice_index}
use Rattle.std.proofs.lemmas.List.{map_push, take_all, length-map}
use Rattle.std.specs.Str.{bytes_eq}
use Rattle.std.specs.List.{Contains, list_any}
use Rattle.std.proofs.Math.Dec.{eqb}
use Rattle.std.proofs.lemmas.Bool.Decides.{Decides-eqb}
use Rattle.std.proofs.lemmas.List.Elements.{All-contains}
use Rattle.std.proofs.lemmas.Map.Made.{IsDistinct-from_AllPairs}
use Rattle.std.proofs.lemmas.Map.Steps.{length-le_from_distinct_below}
use Rattle.std.proofs.lemmas.Slice.Eq.{bytes_eq-Decides}
use Rattle.std.proofs.lemmas.Option.{get_or_from_slice_get, slice_get-get_or}
use Rattle.statement.specs.Benches.{Text}
use Rattle.netlist.specs.Conditions.{IsSound, most_signals}
use Rattle.statement.specs.Netlists.{Netlist, cells, name_of, signals}
use Rattle.netlist.proofs.Placed.{input_below, signal_below}
use Rattle.statement.specs.Runs.{output_name}
use Rattle.statement.specs.Stils.{StilFile, scan_inputs, scan_outputs}
use Rattle.stil_vectors.specs.Fitting.{FitsNetlist}
use Rattle.stil_vectors.proofs.CharLemmas.{take_at}

pub names_more : {X Y : Type 0} (f : X → Y) (xs : List X) (names : List Y) (i : ℕ) (x : X) (name : Y) → slice_get xs i ≡ Some x → slice_get names i ≡ Some name → name ≡ f x → take i names ≡ map f (take i xs)
    → take (i + 1) names ≡ map f (take (i + 1) xs)
names_more f xs names i x name hx hn e so_far =
    take_at names i name hn ∙ ap (λ l. l ++ name ∷ []) so_far ∙ ap (λ n. map f (take i xs) ++ n ∷ []) e ∙ sym (map_push f (take i xs) x) ∙ ap (map f) (sym (take_at xs i x hx))

pub names_end : {X Y : Type 0} (f : X → Y) (xs : List X) (names : List Y) (i : ℕ) → length xs ≤ i → length names ≤ i → take i names ≡ map f (take i xs) → names ≡ map f xs
names_end f xs names i h g e = sym (take_all i names g) ∙ e ∙ ap (map f) (take_all i xs h)

got-map : {X Y : Type 0} (f : X → Y) (xs : List X) (i : ℕ) (x : X) → slice_get xs i ≡ Some x → slice_get (map f xs) i ≡ Some (f x)
got-map f [] i x e = absurd (cc)
got-map f (y ∷ ys) zero x e = let s : y ≡ x = cc in ap (λ z. Some (f z)) s
got-map f (y ∷ ys) (suc i) x e = got-map f ys i x e

pub names_differ : {X Y : Type 0} (f : X → Y) (xs : List X) (names : List Y) (i : ℕ) (x : X) (name : Y) → slice_get xs i ≡ Some x → slice_get names i ≡ Some name → (name ≡ f x → ⊥) → names ≡ map f xs → ⊥
names_differ f xs names i x name hx hn none e =
    let a : Some name ≡ Some (f x) = sym hn ∙ ap (λ l. slice_get l i) e ∙ got-map f xs i x hx in
    let s : name ≡ f x = cc in none s

pub other_length : {X Y : Type 0} (f : X → Y) (xs : List X) (names : List Y) → (length names ≡ length xs → ⊥) → names ≡ map f xs → ⊥
other_length f xs names none e = none (ap length e ∙ length-map xs f)

-- a signal among the inputs
pub input_within : (n : Netlist) → IsSound n → (place x : ℕ) (ids : List ℕ) → ids ≡ n.inputs → place < length ids → x ≡ get_or ids place x → x < length (signals n)
input_within n sound place x ids e l is =
    let m : place < length n.inputs = (let k = ap length e in omega (arith, k, l)) in
    input_below n sound.formed.numbered x (place, m, sym (is ∙ ap (λ (xs : List ℕ). get_or xs place x) e))

pub got_at : {X : Type 0} (xs ys : List X) (place : ℕ) (x : X) → xs ≡ ys → place < length xs → x ≡ get_or xs place x → slice_get ys place ≡ Some x
got_at xs ys place x e l is = sym (ap (λ zs. slice_get zs place) e) ∙ slice_get-get_or xs place x l ∙ ap Some (sym is)

pub named : (n : Netlist) (x : ℕ) (name : List ℕ) → slice_get n.names x ≡ Some name → name ≡ name_of n x
named n x name e = sym (get_or_from_slice_get n.names x name [] e)

-- the output at a place
pub output_at : (n : Netlist) (place : ℕ) → place < length n.outputs → slice_get n.outputs place ≡ Some (slice_index n.outputs place)
output_at n place l = slice_get-get_or n.outputs place 0 l

-- ---- files that fit

-- ---- texts compared

was_true : (b : Bool) → false ≡ not b → b ≡ true
was_true true e = refl
was_true false e = cc

was_false : (b : Bool) → true ≡ not b → b ≡ false
was_false true e = cc
was_false false e = refl

pub same_text : (a b : Text) → false ≡ not (bytes_eq a b) → a ≡ b
same_text a b e = (bytes_eq-Decides a b).0 (was_true (bytes_eq a b) e)

true_not_false : (b : Bool) → b ≡ true → b ≡ false → ⊥
true_not_false true e f = cc
true_not_false false e f = cc

pub other_text : (a b : Text) → true ≡ not (bytes_eq a b) → a ≡ b → ⊥
other_text a b e s = true_not_false (bytes_eq a b) ((bytes_eq-Decides a b).1 s) (was_false (bytes_eq a b) e)

-- ---- there are no more outputs than signals

any_by : (q x : ℕ) (xs : List ℕ) (b : Bool) → eqb q x ≡ b → (b || list_any (eqb q) xs) ≡ true → (list_any (eqb q) xs ≡ true → Contains xs q) → Contains (x ∷ xs) q
any_by q x xs true e h later = (0, omega arith, sym ((Decides-eqb q x).0 e))
any_by q x xs false e h later = let l = later h in (suc l.0, (let k = l.1 in omega (arith, k)), l.2)

any_at : (q : ℕ) (xs : List ℕ) → list_any (eqb q) xs ≡ true → Contains xs q
any_at q [] h = absurd (cc)
any_at q (x ∷ xs) h = any_by q x xs (eqb q x) refl h (λ l. any_at q xs l)

few_outputs : (n : Netlist) → IsSound n → length n.outputs ≤ length (signals n)
few_outputs n sound =
    length-le_from_distinct_below n.outputs (length (signals n)) (IsDistinct-from_AllPairs Decides-eqb n.outputs sound.formed.once)
    (λ q h. signal_below n sound.formed.numbered q (All-contains (Contains (signals n)) n.outputs q sound.closed.outputs (any_at q n.outputs h)))

pub output_small : (n : Netlist) (place : ℕ) (outputs : List ℕ) → IsSound n → outputs ≡ n.outputs → place < length outputs → place < most_signals
output_small n place outputs sound e l =
    let few = few_outputs n sound in
    let small = sound.sized.small in
    let same = ap length e in
    omega (arith, few, small, same, l)
