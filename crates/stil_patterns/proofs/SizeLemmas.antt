-- A file has an item for each of its patterns.
use Rattle.std.proofs.Common.{◌≡◌, ℕ, ◌+◌, ◌≤◌, false, not, List, [], ◌∷◌, ◌++◌, length, map, length-append, ap, arith}
use Rattle.std.specs.Prelude.{replicate}
use Rattle.std.specs.List.{AllZip, zip}
use Rattle.statement.specs.declared.kinds.Tri.{Tri}
use Rattle.statement.specs.declared.kinds.Tri.TheVariants.{X}
use Rattle.statement.specs.Values.{known}
use Rattle.statement.specs.Patterns.{Pattern}
use Rattle.statement.specs.Tests.{cells_of, Response, flush, applied_items, capture_item, load_items, test_items}
use Rattle.statement.specs.Stils.{StilFile}
use Rattle.stil_patterns.specs.Laws.{PatternsTakeItems}

zip_long : {X Y : Type 0} (R : X → Y → Type 0) (xs : List X) (ys : List Y) → AllZip R xs ys → length xs ≤ length (zip xs ys)
zip_long R [] ys all = omega arith
zip_long R (x ∷ xs) [] all = absurd all
zip_long R (x ∷ xs) (y ∷ ys) all = let rest = zip_long R xs ys all.1 in omega arith

applied_long : (chains : List (List ℕ)) (held : List Tri) (tests : List (Pattern × Response)) → length tests ≤ length (applied_items chains held tests)
applied_long chains held [] = omega arith
applied_long chains held (test ∷ tests) =
    let later = applied_items chains (map known test.1.cells) tests in
    omega (arith, length-append (load_items chains test.0.cells held) (capture_item chains test.0 test.1 ∷ later), applied_long chains (map known test.1.cells) tests)

items_long : (chains : List (List ℕ)) (tests : List (Pattern × Response)) → length tests ≤ length (test_items chains tests)
items_long chains tests =
    let nothing = replicate (length (cells_of chains)) X in
    let first = load_items chains (flush chains) nothing in
    let second = load_items chains (map not (flush chains)) (map known (flush chains)) in
    let last = load_items chains (replicate (length (cells_of chains)) false) (map known (map not (flush chains))) in
    let all : length (test_items chains tests) ≡ length (first ++ second ++ last) + length (applied_items chains nothing tests) =
    length-append (first ++ second ++ last) (applied_items chains nothing tests) in
    omega (arith, all, applied_long chains nothing tests)

pub patterns_take_items : PatternsTakeItems
patterns_take_items n holds chains patterns f is =
    omega (arith, ap (λ (g : StilFile). length g.items) is.is, items_long chains (zip patterns is.responses), zip_long _ patterns is.responses is.respond)
