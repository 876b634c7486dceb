-- How many cycles a file has.
use Rattle.std.proofs.Common.{◌≡◌, ◌∙◌, ◌+◌, ◌<◌, ◌≤◌, ℕ, List, [], ◌∷◌, ◌++◌, ap, sym, length, map, take, drop, get_or, arith, length-append, Some, slice_get}
use Rattle.std.specs.List.{flat_map}
use Rattle.std.proofs.lemmas.List.{append-nil, length-map, take-append-drop, take_more}
use Rattle.std.proofs.lemmas.List.Concat.{flat_map-append}
use Rattle.statement.specs.Benches.{Text}
use Rattle.statement.specs.Runs.{numbers_from, Cycle}
use Rattle.scan_insert.proofs.Numbers.{length-numbers_from}
use Rattle.statement.specs.Stils.{Call, Item, StilFile, Vector}
use Rattle.stil_write.specs.StilFiles.{item_at, words_of}
use Rattle.statement.specs.Tests.{call_cycle, cycles_of_item, vectors_in}
use Rattle.stil_vectors.specs.FileVectors.{call_size}
use Rattle.stil_vectors.proofs.CallLemmas.{first_size}

pub call_count : (f : StilFile) (item : Item) (words : List Text) (first : Text) → item ≡ Call words → slice_get words 0 ≡ Some first → length first ≡ length (cycles_of_item f item)
call_count f item words first e got =
    sym (ap (λ (i : Item). length (cycles_of_item f i)) e ∙ (length-map (numbers_from 0 (call_size words)) (call_cycle f words) ∙ (length-numbers_from 0 (call_size words) ∙ first_size words first got)))

abbrev cycles_before : StilFile → ℕ → List Cycle
cycles_before f i = flat_map (cycles_of_item f) (take i f.items)

one_more : (f : StilFile) (i : ℕ) → i < length f.items → length (cycles_before f (i + 1)) ≡ length (cycles_before f i) + length (cycles_of_item f (item_at f.items i))
one_more f i l =
    ap (λ (is : List Item). length (flat_map (cycles_of_item f) is)) (take_more f.items i (Vector []) l)
    ∙ (ap length (flat_map-append (cycles_of_item f) (take i f.items) (item_at f.items i ∷ []) ∙ ap (λ (cs : List Cycle). cycles_before f i ++ cs) (append-nil (cycles_of_item f (item_at f.items i))))
    ∙ length-append (cycles_before f i) (cycles_of_item f (item_at f.items i)))

no_more : (f : StilFile) (i : ℕ) → length (cycles_before f i) ≤ length (vectors_in f)
no_more f i =
    let split = ap (λ (is : List Item). length (flat_map (cycles_of_item f) is)) (take-append-drop i f.items) in
    let parts = ap length (flat_map-append (cycles_of_item f) (take i f.items) (drop i f.items)) in
    let sum = length-append (cycles_before f i) (flat_map (cycles_of_item f) (drop i f.items)) in
    omega (arith, split, parts, sum)

pub counted_over : (f : StilFile) (i count more most : ℕ) → i < length f.items → count ≡ length (cycles_before f i) → more ≡ length (cycles_of_item f (item_at f.items i)) → most ≤ count + more → most ≤ length (vectors_in f)
counted_over f i count more most l e m s = let k = one_more f i l in let n = no_more f (i + 1) in omega (arith, k, n, e, m, s)
