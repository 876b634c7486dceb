-- The names of the scanned netlist's signals.
use Rattle.std.specs.Prelude.{ℕ, cond, List, [], ◌∷◌, ◌++◌, map, slice_index, codes, decimal}
use Rattle.std.specs.List.{flat_map}
use Rattle.statement.specs.Runs.{numbers_from, output_name}
use Rattle.statement.specs.Netlists.{Definition, Netlist, is_cell, name_of}

-- a definition's names: a cell has four more
abbrev pub definition_names : Netlist → Definition → List (List ℕ)
definition_names n d =
    let name = name_of n d.id in
    cond (is_cell d) ((codes "SC__a_" ++ name) ∷ (codes "SC__b_" ++ name) ∷ (codes "SC__d_" ++ name) ∷ (codes "SC__s_" ++ name) ∷ name ∷ []) (name ∷ [])

-- the names of the signals with so many chains, in order
abbrev pub names_of : Netlist → ℕ → List (List ℕ)
names_of n chains =
    map (name_of n) n.inputs
    ++ codes "SC__se" ∷ map (λ c. codes "SC__si" ++ decimal c) (numbers_from 0 chains)
    ++ codes "SC__nse" ∷ flat_map (definition_names n) n.definitions
    ++ map (λ c. codes "SC__so" ++ decimal c) (numbers_from 0 chains)

abbrev pub pin_name_of : Netlist → ℕ → List ℕ
pin_name_of n output = output_name n (slice_index n.outputs output)
