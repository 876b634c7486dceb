-- The texts of a run whose netlist is put in order.
use denote.Ref.{Bor}
use Rattle.std.proofs.Common.{◌≡◌, ◌≤◌, ◌+◌, ℕ, List, [], Option, Some, None, Ok, Vec, arith, length, option_map}
use Rattle.std.specs.Prelude.{IfSome}
use Rattle.std.specs.Option.{option_to_list}
use Rattle.std.specs.declared.alloc.Global.{Global}
use Rattle.std.proofs.lemmas.List.{length-map}
use Rattle.statement.specs.Benches.{Text}
use Rattle.commands.specs.Names.{texts_of}
use Rattle.command_line.specs.CommandLine.{AreInRunRange, run_reads}
use Rattle.command_line.specs.declared.requests.RunOptions.{RunOptions}
use Rattle.plain_text.specs.Limits.{most_chains}
use Rattle.command_steps.specs.Ordering.{IsOrdered}
use Rattle.command_steps.specs.declared.ordering.Ordered.{Ordered}
use Rattle.command_steps.proofs.OrderLemmas.{ordered_length}
use Rattle.asked_run.specs.Asked.{with_chains}
use Rattle.asked_run.specs.inner.Asking.{HaveCount}

pub two_texts : (order : Option (Bor Text)) (list first : Option Text) (count : ℕ) → HaveCount (option_map (λ t. t.now) order) list first count → IfSome order (λ _. 2 ≤ count)
two_texts None list first count is = tt
two_texts (Some name) list first count is = omega (arith, is)

read_count : (order list first : Option Text) → length (run_reads [] order list first) ≡ length (run_reads [] None list first) + length (option_to_list order)
read_count None list first = omega arith
read_count (Some name) list first = omega arith

-- the order is left out
pub left_over : (order list first : Option Text) (chains : ℕ) (texts : List (Vec ℕ Global)) (o : Ordered) → IsOrdered order chains (texts_of texts) (Ok o) → HaveCount order list first (length texts)
    → HaveCount None list first (length o.texts.items)
left_over order list first chains texts o is count =
    let whole = ordered_length order chains (texts_of texts) o is in
    let before = length-map texts (λ (v : Vec ℕ Global). v.items) in
    let behind = length-map o.texts.items (λ (v : Vec ℕ Global). v.items) in
    let read = read_count order list first in
    omega arith

pub in_range : (options : RunOptions) (chains : ℕ) → AreInRunRange options → (1 ≤ chains) × (chains ≤ most_chains) → AreInRunRange (with_chains options chains)
in_range options chains are range = record {
  numbers = record { chains = range; workers = are.numbers.workers; limit = are.numbers.limit };
  percent = are.percent;
  rounds = are.rounds;
  times = are.times;
}
