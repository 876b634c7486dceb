-- What is due of a command that is given an order of its netlist's cells.
use Rattle.std.specs.Prelude.{ℕ, ◌≡◌, ◌⊎◌, ⊤, max, List, [], ◌∷◌, Option, Some, None, Result, Ok, Err, length}
use Rattle.statement.specs.Benches.{Text}
use Rattle.statement.specs.Netlists.{Netlist}
use Rattle.bench_text.specs.declared.refusal.Names.TheVariants.{Design}
use Rattle.cell_order.specs.Orders.{IsOrder, IsRefused, chains_in}
use Rattle.cell_order.specs.Ordered.{ordered_text}
use Rattle.cell_order.specs.declared.refusal.OrderRefusal.{OrderRefusal}
use Rattle.commands.specs.Due.{Due}
use Rattle.commands.specs.Names.{texts_of}
use Rattle.commands.specs.declared.product.Stop.{Stop}
use Rattle.commands.specs.declared.product.Stop.TheVariants as stop
use Rattle.command_steps.specs.Steps.{◌>>=◌, netlist}
use Rattle.command_steps.specs.declared.ordering.Ordered.{Ordered}
use Rattle.command_steps.specs.declared.refusal.Refusal.{Refusal}
use Rattle.command_steps.specs.declared.refusal.Refusal.TheVariants as refusal

-- the cells in the order that a text says, or why it is no order
abbrev pub cell_order : Netlist → Text → Result (List ℕ) Refusal → Type 0
cell_order n text (Ok order) = IsOrder n text order (length (chains_in text))
cell_order n text (Err r) = (cause : OrderRefusal) × IsRefused n text cause × (r ≡ refusal.Order cause)

-- how many chains an order asks for: as many as it has, and one where there is no cell
abbrev pub chains_asked : Text → ℕ
chains_asked text = max 1 (length (chains_in text))

-- What is due of a number of chains and of texts, the netlist's first. Where an order is given, its text is the second, and this is due of the
-- netlist whose cells are put in that order, in as many chains as the order has.
abbrev pub ordered_due : (ℕ → List Text → Due Refusal → Type 0) → Option Text → ℕ → List Text → Due Refusal → Type 0
ordered_due due None chains texts = due chains texts
ordered_due due (Some name) chains (net ∷ text ∷ texts) =
    netlist Design net >>= λ n. cell_order n text >>= λ order. due (chains_asked text) (ordered_text n order ∷ texts)
ordered_due due (Some name) chains texts = λ d. ⊥

-- ---- what the code of these steps answers

-- the texts with the netlist put in order, and how many chains are asked for; or why not
abbrev pub IsPutInOrder : List Text → Result Ordered (Stop Refusal) → Type 0
IsPutInOrder texts (Err stop.NoMemory) = ⊤
IsPutInOrder (net ∷ text ∷ texts) (Ok o) =
    (n : Netlist) × netlist Design net (Ok n) × (order : List ℕ) × cell_order n text (Ok order) × (o.chains ≡ chains_asked text) × (texts_of o.texts.items ≡ ordered_text n order ∷ texts)
IsPutInOrder (net ∷ text ∷ texts) (Err (stop.Refused r)) = netlist Design net (Err r) ⊎ ((n : Netlist) × netlist Design net (Ok n) × cell_order n text (Err r))
IsPutInOrder texts result = ⊥

-- the same where an order may be given; where none is, all is as it was
abbrev pub IsOrdered : Option Text → ℕ → List Text → Result Ordered (Stop Refusal) → Type 0
IsOrdered None chains texts (Ok o) = (o.chains ≡ chains) × (texts_of o.texts.items ≡ texts)
IsOrdered None chains texts (Err (stop.Refused r)) = ⊥
IsOrdered None chains texts (Err stop.NoMemory) = ⊤
IsOrdered (Some name) chains texts result = IsPutInOrder texts result
