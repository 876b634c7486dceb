-- A netlist that is put in order.
use Rattle.std.specs.Prelude.{ℕ, ◌≡◌, ◌⊎◌, ⊤, List, Result, Ok, Err, length}
use Rattle.statement.specs.Benches.{Text}
use Rattle.statement.specs.Netlists.{Netlist}
use Rattle.bench_text.specs.declared.refusal.Names.TheVariants.{Design}
use Rattle.cell_order.specs.Orders.{chains_in}
use Rattle.cell_order.specs.Ordered.{ordered_text}
use Rattle.commands.specs.declared.product.Stop.{Stop}
use Rattle.commands.specs.declared.product.Stop.TheVariants as stop
use Rattle.command_steps.specs.Ordering.{cell_order, chains_asked}
use Rattle.command_steps.specs.Steps.{netlist}
use Rattle.command_steps.specs.declared.ordering.OrderedNet.{OrderedNet}
use Rattle.command_steps.specs.declared.refusal.Refusal.{Refusal}
use Rattle.cell_order.specs.declared.reading.Order.{Order}

-- the order, or why there is none
abbrev pub ReadsOrder : Netlist → Text → Result Order (Stop Refusal) → Type 0
ReadsOrder n text (Ok o) = cell_order n text (Ok o.cells.items) × (o.chains ≡ length (chains_in text))
ReadsOrder n text (Err (stop.Refused r)) = cell_order n text (Err r)
ReadsOrder n text (Err stop.NoMemory) = ⊤

-- the text of the netlist in the order that the text says
abbrev pub IsOrderedNet : Netlist → Text → OrderedNet → Type 0
IsOrderedNet n text o = (order : List ℕ) × cell_order n text (Ok order) × (o.chains ≡ chains_asked text) × (o.text.items ≡ ordered_text n order)

abbrev pub OrdersNetlist : Netlist → Text → Result OrderedNet (Stop Refusal) → Type 0
OrdersNetlist n text (Ok o) = IsOrderedNet n text o
OrdersNetlist n text (Err (stop.Refused r)) = cell_order n text (Err r)
OrdersNetlist n text (Err stop.NoMemory) = ⊤

-- the same of the netlist's text
abbrev pub OrdersText : Text → Text → Result OrderedNet (Stop Refusal) → Type 0
OrdersText net text (Ok o) = (n : Netlist) × netlist Design net (Ok n) × IsOrderedNet n text o
OrdersText net text (Err (stop.Refused r)) = netlist Design net (Err r) ⊎ ((n : Netlist) × netlist Design net (Ok n) × cell_order n text (Err r))
OrdersText net text (Err stop.NoMemory) = ⊤
