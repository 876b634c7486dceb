-- Chains that are given.
use Rattle.std.specs.Prelude.{ℕ, ◌≡◌, List, map}
use Rattle.statement.specs.Netlists.{Netlist, name_of}
use Rattle.statement.specs.Benches.{Text}
use Rattle.scan_insert.specs.Chains.{chains_of}
use Rattle.cell_order.specs.Orders.{IsOrder, chains_in}

-- Dealt to so many chains as the text has lines, the cells of an order are in the chains of the text.
abbrev pub ChainsAreGiven : Type 0
ChainsAreGiven = (n : Netlist) (text : Text) (order : List ℕ) (chains : ℕ) → IsOrder n text order chains
    → map (map (name_of n)) (chains_of order chains) ≡ chains_in text
