-- The line that counts the cells of a netlist, and the texts that are read.
use denote.Ref.{Bor}
use Rattle.std.proofs.Common.{◌≡◌, ◌∙◌, ◌≤◌, ◌+◌, ℕ, List, [], Option, Some, None, Ok, Vec, ap, arith, length, map, option_map, refl}
use Rattle.std.specs.Prelude.{◌++◌, IfSome, codes, decimal}
use Rattle.std.specs.Option.{option_to_list}
use Rattle.std.specs.declared.alloc.Global.{Global}
use Rattle.std.proofs.lemmas.List.{length-map}
use Rattle.statement.specs.Netlists.{Definition, Netlist, cells}
use Rattle.statement.specs.Benches.{Text}
use Rattle.commands.specs.Names.{texts_of}
use Rattle.command_line.specs.CommandLine.{scan_reads}
use Rattle.command_steps.specs.Ordering.{IsOrdered}
use Rattle.command_steps.specs.declared.ordering.Ordered.{Ordered}
use Rattle.command_steps.proofs.OrderLemmas.{ordered_length}
use Rattle.atpg_top.specs.Scans.{scan_line}

pub cell_count : (n : Netlist) (ids : List ℕ) → ids ≡ map (λ (d : Definition). d.id) (cells n) → length ids ≡ length (cells n)
cell_count n ids e = ap length e ∙ length-map (cells n) (λ (d : Definition). d.id)

pub line_same : (n : Netlist) (chains : List (List ℕ)) (k c : ℕ) → k ≡ length (cells n) → c ≡ length chains
    → codes "cells " ++ (decimal k ++ (codes " chains " ++ (decimal c ++ codes "\n"))) ≡ scan_line n chains
line_same n chains k c e f =
    ap (λ j. codes "cells " ++ (decimal j ++ (codes " chains " ++ (decimal c ++ codes "\n")))) e
    ∙ ap (λ j. codes "cells " ++ (decimal (length (cells n)) ++ (codes " chains " ++ (decimal j ++ codes "\n")))) f

-- ---- how many texts are read

pub two_read : (order : Option (Bor Text)) (count : ℕ) → count ≡ length (scan_reads [] (option_map (λ t. t.now) order)) → IfSome order (λ _. 2 ≤ count)
two_read None count is = tt
two_read (Some name) count is = omega (arith, is)

read_count : (order : Option Text) → length (scan_reads [] order) ≡ 1 + length (option_to_list order)
read_count None = refl
read_count (Some name) = refl

-- behind the order the netlist's text is left
pub one_left : (order : Option Text) (chains : ℕ) (texts : List (Vec ℕ Global)) (o : Ordered) → IsOrdered order chains (texts_of texts) (Ok o) → length texts ≡ length (scan_reads [] order)
    → length o.texts.items ≡ 1
one_left order chains texts o is count =
    let whole = ordered_length order chains (texts_of texts) o is in
    let before = length-map texts (λ (v : Vec ℕ Global). v.items) in
    let behind = length-map o.texts.items (λ (v : Vec ℕ Global). v.items) in
    let read = read_count order in
    omega arith
