-- A netlist whose cells are put in an order.
use Rattle.std.specs.Prelude.{ℕ, ◌≡◌, List, [], ◌∷◌, cond}
use Rattle.std.specs.List.{flat_map}
use Rattle.std.specs.Option.{option_to_list}
use Rattle.statement.specs.Netlists.{Definition, Netlist, is_cell}
use Rattle.statement.specs.Benches.{Text, canonical}
use Rattle.netlist.specs.Conditions.{IsSound}
use Rattle.netlist.specs.Netlist.{definition_of}
use Rattle.scan_insert.specs.Scanned.{cell_ids}

-- the definitions of these signals, in this order
abbrev pub definitions_at : Netlist → List ℕ → List Definition
definitions_at n order = flat_map (λ x. option_to_list (definition_of n x)) order

-- The definitions, but that where a cell stands the next of these stands.
abbrev pub in_places : List Definition → List Definition → List Definition
in_places [] next = []
in_places (d ∷ ds) [] = d ∷ in_places ds []
in_places (d ∷ ds) (c ∷ next) = cond (is_cell d) (c ∷ in_places ds next) (d ∷ in_places ds (c ∷ next))

-- the same signals under the same names, and the cells in this order where cells stand
abbrev pub in_order : Netlist → List ℕ → Netlist
in_order n order = record n { definitions = in_places n.definitions (definitions_at n order) }

-- its text
abbrev pub ordered_text : Netlist → List ℕ → Text
ordered_text n order = canonical (in_order n order)

-- In its own order a netlist is what it was.
abbrev pub OwnOrder : Type 0
OwnOrder = (n : Netlist) → IsSound n → in_order n (cell_ids n) ≡ n
