-- How wide the cycles of a file are.
use Rattle.std.proofs.Common.{◌≡◌, ◌∙◌, ◌+◌, ◌*◌, ◌<◌, ◌≤◌, ℕ, zero, suc, false, List, [], ◌∷◌, ◌++◌, ap, sym, refl, subst, length, take, drop, map, arith, replicate, length-append, min}
use Rattle.std.specs.Prelude.{codes, slice_index_or}
use Rattle.std.specs.List.{All, AllZip, flat_map}
use Rattle.std.proofs.lemmas.List.{length-replicate, length-take, length-drop, length-map, drop_at, take-append-le, take_all}
use Rattle.std.proofs.lemmas.List.Elements.{All-append, All-cons, All-head, All-nil, All-tail, All-weaker}
use Rattle.statement.specs.Benches.{Text}
use Rattle.statement.specs.declared.kinds.Tri.{Tri}
use Rattle.statement.specs.declared.kinds.Tri.TheVariants.{X}
use Rattle.statement.specs.Netlists.{Netlist, name_of}
use Rattle.statement.specs.Runs.{numbers_from, output_name, Cycle}
use Rattle.scan_play.specs.Cycles.{IsCycleOf}
use Rattle.stil_write.specs.declared.forms.Form.{Form}
use Rattle.stil_write.specs.declared.forms.CharKind.TheVariants as values
use Rattle.statement.specs.Stils.{Call, Item, StilFile, Vector, clock, scan_inputs, scan_outputs, where_chained}
use Rattle.stil_write.specs.StilFiles.{IsItem, IsStilFile, IsWord, shift_size, vector_forms}
use Rattle.stil_write.proofs.ItemLemmas.{length-numbered}
use Rattle.statement.specs.Tests.{driven_bit, call_cycle, cycles_of_item, strobed_value, vector_cycle, vectors_in}
use Rattle.stil_vectors.specs.FileVectors.{bits_of, call_size, together, values_of}
use Rattle.stil_vectors.specs.Fitting.{FitsNetlist, IsCycleFor}
use Rattle.stil_vectors.specs.Laws.{FittingCycles}
use Rattle.stil_vectors.proofs.CallLemmas.{call_words}
use Rattle.stil_vectors.proofs.CharLemmas.{length-chars}
use Rattle.stil_vectors.proofs.VectorLemmas.{clock_count, length-chained}

-- ---- words by their forms

abbrev sizes : List Form → ℕ
sizes [] = 0
sizes (form ∷ forms) = form.size + sizes forms

sizes-ones : (n : ℕ) (form : Form) → form.size ≡ 1 → sizes (replicate n form) ≡ n
sizes-ones zero form e = refl
sizes-ones (suc n) form e = let k = sizes-ones n form e in omega (arith, k, e)

together_sizes : (forms : List Form) (words : List Text) → AllZip IsWord forms words → length (together words) ≡ sizes forms
together_sizes [] [] a = refl
together_sizes [] (w ∷ words) a = absurd a
together_sizes (form ∷ forms) [] a = absurd a
together_sizes (form ∷ forms) (w ∷ words) a =
    let k = together_sizes forms words a.1 in
    let m = length-append w (together words) in
    let n = a.0.0 in
    omega (arith, k, m, n)

zip_take : (k : ℕ) (forms : List Form) (words : List Text) → AllZip IsWord forms words → AllZip IsWord (take k forms) (take k words)
zip_take zero forms words a = tt
zip_take (suc k) [] [] a = tt
zip_take (suc k) [] (w ∷ words) a = absurd a
zip_take (suc k) (form ∷ forms) [] a = absurd a
zip_take (suc k) (form ∷ forms) (w ∷ words) a = (a.0, zip_take k forms words a.1)

zip_drop : (k : ℕ) (forms : List Form) (words : List Text) → AllZip IsWord forms words → AllZip IsWord (drop k forms) (drop k words)
zip_drop zero forms words a = a
zip_drop (suc k) [] [] a = tt
zip_drop (suc k) [] (w ∷ words) a = absurd a
zip_drop (suc k) (form ∷ forms) [] a = absurd a
zip_drop (suc k) (form ∷ forms) (w ∷ words) a = zip_drop k forms words a.1

pub front_of : {X : Type 0} (n : ℕ) (xs ys : List X) → length xs ≡ n → take n (xs ++ ys) ≡ xs
front_of zero [] ys e = refl
front_of zero (x ∷ xs) ys e = absurd (omega (arith, e))
front_of (suc n) [] ys e = absurd (omega (arith, e))
front_of (suc n) (x ∷ xs) ys e = ap (λ l. x ∷ l) (front_of n xs ys (omega (arith, e)))

pub back_of : {X : Type 0} (n : ℕ) (xs ys : List X) → length xs ≡ n → drop n (xs ++ ys) ≡ ys
back_of zero [] ys e = refl
back_of zero (x ∷ xs) ys e = absurd (omega (arith, e))
back_of (suc n) [] ys e = absurd (omega (arith, e))
back_of (suc n) (x ∷ xs) ys e = back_of n xs ys (omega (arith, e))

dropped_nothing : {X : Type 0} (k : ℕ) → drop {A = X} k [] ≡ []
dropped_nothing zero = refl
dropped_nothing (suc k) = refl

pub drop_more : {X : Type 0} (n m : ℕ) (xs : List X) → drop (n + m) xs ≡ drop m (drop n xs)
drop_more zero m xs = let e : 0 + m ≡ m = omega arith in ap (λ k. drop k xs) e
drop_more {X} (suc n) m [] = let e : suc n + m ≡ suc (n + m) = omega arith in ap (λ k. drop {A = X} k []) e ∙ sym (dropped_nothing m)
drop_more (suc n) m (x ∷ xs) = let e : suc n + m ≡ suc (n + m) = omega arith in ap (λ k. drop k (x ∷ xs)) e ∙ drop_more n m xs

-- ---- cycles

shift_len : (n p : ℕ) → 1 ≤ n → shift_size n p ≡ p
shift_len zero p h = absurd (omega arith)
shift_len (suc n) p h = refl

all_numbers : (P : Cycle → Type 0) (g : ℕ → Cycle) → ((t : ℕ) → P (g t)) → (first count : ℕ) → All P (map g (numbers_from first count))
all_numbers P g h first zero = All-nil P
all_numbers P g h first (suc count) = All-cons P (g first) (map g (numbers_from (first + 1) count)) (h first) (all_numbers P g h (first + 1) count)

call_wide : (f : StilFile) (words : List Text) → IsStilFile f → IsItem f (Call words) → (t : ℕ) → IsCycleFor f (call_cycle f words t)
call_wide f words h c t =
    let n = length f.chains in
    let k = (call_words n words c).1 in
    let count = k.count in
    let chained = c.2 in
    let shifted = h.shift.0 ∙ shift_len n (length f.pi) chained in
    let bits = length-map f.shift_word driven_bit in
    let few = length-take n words in
    let more = length-drop n words in
    let ins = length-chars driven_bit false (take n words) t in
    let outs = length-chars strobed_value X (drop n words) t in
    let xs = length-replicate (length f.po) X in
    let d = length-append (bits_of f.shift_word) (map (λ (word : List _). slice_index_or word t false) (map bits_of (take n words))) in
    let s = length-append (replicate (length f.po) X) (map (λ (word : List _). slice_index_or word t X) (map values_of (drop n words))) in
    record { drive = omega (arith, d, bits, shifted, ins, few, count); strobe = omega (arith, s, xs, outs, more, count) }

vector_wide : (f : StilFile) (words : List Text) → IsStilFile f → IsItem f (Vector words) → IsCycleFor f (vector_cycle f words)
vector_wide f words h a =
    let n = length f.chains in
    let bit : Form = record { values = values.Bits; size = 1 } in
    let pulse : Form = record { values = values.Pulses; size = 1 } in
    let strobe : Form = record { values = values.Strobes; size = 1 } in
    let inputs : Form = record { values = values.Bits; size = length f.pi } in
    let outputs : Form = record { values = values.Strobes; size = length f.po } in
    let rest = where_chained n pulse ++ (outputs ∷ replicate n strobe) in
    let c = length (clock f) in
    let cc' : length (where_chained n pulse) ≡ c = length-chained n pulse ∙ sym (clock_count f) in
    let one : n + 1 ≡ suc n = omega arith in
    let front : take (n + 1) (vector_forms f) ≡ inputs ∷ replicate n bit = ap (λ k. take k (vector_forms f)) one ∙ ap (λ l. inputs ∷ l) (front_of n (replicate n bit) rest (length-replicate n bit)) in
    let behind : drop (n + 1) (vector_forms f) ≡ rest = ap (λ k. drop k (vector_forms f)) one ∙ back_of n (replicate n bit) rest (length-replicate n bit) in
    let back : drop (n + 1 + c) (vector_forms f) ≡ outputs ∷ replicate n strobe = drop_more (n + 1) c (vector_forms f) ∙ ap (drop c) behind ∙ back_of c (where_chained n pulse) (outputs ∷ replicate n strobe) cc' in
    let d = together_sizes (take (n + 1) (vector_forms f)) (take (n + 1) words) (zip_take (n + 1) (vector_forms f) words a) in
    let s = together_sizes (drop (n + 1 + c) (vector_forms f)) (drop (n + 1 + c) words) (zip_drop (n + 1 + c) (vector_forms f) words a) in
    let ds = ap sizes front in
    let ss = ap sizes back in
    let ones = sizes-ones n bit refl in
    let strobes = sizes-ones n strobe refl in
    let bits = length-map (together (take (n + 1) words)) driven_bit in
    let vals = length-map (together (drop (n + 1 + c) words)) strobed_value in
    record { drive = omega (arith, d, ds, ones, bits); strobe = omega (arith, s, ss, strobes, vals) }

item_wide : (f : StilFile) (item : Item) → IsStilFile f → IsItem f item → All (IsCycleFor f) (cycles_of_item f item)
item_wide f (Call words) h a = all_numbers (IsCycleFor f) (call_cycle f words) (call_wide f words h a) 0 (call_size words)
item_wide f (Vector words) h a = All-cons (IsCycleFor f) (vector_cycle f words) [] (vector_wide f words h a) (All-nil (IsCycleFor f))

items_wide : (f : StilFile) (items : List Item) → IsStilFile f → All (IsItem f) items → All (IsCycleFor f) (flat_map (cycles_of_item f) items)
items_wide f [] h a = All-nil (IsCycleFor f)
items_wide f (item ∷ items) h a =
    All-append (IsCycleFor f) (cycles_of_item f item) (flat_map (cycles_of_item f) items) (item_wide f item h (All-head (IsItem f) item items a)) (items_wide f items h (All-tail (IsItem f) item items a))

pub fitting_cycles : FittingCycles
fitting_cycles f n h fits =
    let i = ap length fits.inputs in
    let o = ap length fits.outputs in
    let a = length-append f.pi (scan_inputs f) in
    let b = length-append f.po (scan_outputs f) in
    let ins = length-map n.inputs (name_of n) in
    let outs = length-map n.outputs (output_name n) in
    let si = length-numbered (codes "SC__si") (length f.chains) in
    let so = length-numbered (codes "SC__so") (length f.chains) in
    All-weaker (IsCycleFor f) (IsCycleOf n) (λ c w. (let d = w.drive in let s = w.strobe in record { drive = omega (arith, d, i, a, ins, si); strobe = omega (arith, s, o, b, outs, so) }))
    (vectors_in f) (items_wide f f.items h h.items)
