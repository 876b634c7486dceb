-- A file has an item for each of its patterns by launch on capture.
use Rattle.std.proofs.Common.{◌≡◌, ℕ, ◌+◌, ◌≤◌, false, not, List, [], ◌∷◌, ◌++◌, length, map, length-append, ap, arith}
use Rattle.std.specs.Prelude.{replicate}
use Rattle.std.specs.List.{AllZip, zip}
use Rattle.statement.specs.declared.kinds.Tri.{Tri}
use Rattle.statement.specs.declared.kinds.Tri.TheVariants.{X}
use Rattle.statement.specs.Netlists.{Netlist}
use Rattle.statement.specs.Values.{known}
use Rattle.statement.specs.Patterns.{Holds, Pattern}
use Rattle.statement.specs.Tests.{cells_of, Response, flush, capture_item, load_items}
use Rattle.statement.specs.Stils.{StilFile}
use Rattle.stil_vectors.specs.TestFiles.{launch_item}
use Rattle.transition_files.specs.LaunchFiles.{IsLaunchFileOf, launch_items, launched_items}

zip_long : {X Y : Type 0} (R : X → Y → Type 0) (xs : List X) (ys : List Y) → AllZip R xs ys → length xs ≤ length (zip xs ys)
zip_long R [] ys all = omega arith
zip_long R (x ∷ xs) [] all = absurd all
zip_long R (x ∷ xs) (y ∷ ys) all = let rest = zip_long R xs ys all.1 in omega arith

launched_long : (outputs : ℕ) (chains : List (List ℕ)) (held : List Tri) (tests : List (Pattern × Response)) → length tests ≤ length (launched_items outputs chains held tests)
launched_long outputs chains held [] = omega arith
launched_long outputs chains held (test ∷ tests) =
    let later = launched_items outputs chains (map known test.1.cells) tests in
    omega (
      arith,
      length-append (load_items chains test.0.cells held) (launch_item outputs chains test.0 ∷ capture_item chains test.0 test.1 ∷ later),
      launched_long outputs chains (map known test.1.cells) tests,
    )

items_long : (outputs : ℕ) (chains : List (List ℕ)) (tests : List (Pattern × Response)) → length tests ≤ length (launch_items outputs chains tests)
items_long outputs chains tests =
    let nothing = replicate (length (cells_of chains)) X in
    let first = load_items chains (flush chains) nothing in
    let second = load_items chains (map not (flush chains)) (map known (flush chains)) in
    let last = load_items chains (replicate (length (cells_of chains)) false) (map known (map not (flush chains))) in
    let all : length (launch_items outputs chains tests) ≡ length (first ++ second ++ last) + length (launched_items outputs chains nothing tests) =
    length-append (first ++ second ++ last) (launched_items outputs chains nothing tests) in
    omega (arith, all, launched_long outputs chains nothing tests)

pub launches_take_items : (n : Netlist) (holds : Holds) (chains : List (List ℕ)) (patterns : List Pattern) (f : StilFile) → IsLaunchFileOf n holds chains patterns f → length patterns ≤ length f.items
launches_take_items n holds chains patterns f is =
    omega (arith, ap (λ (g : StilFile). length g.items) is.is, items_long (length n.outputs) chains (zip patterns is.responses), zip_long _ patterns is.responses is.respond)
