-- Loads of the scan chains: bits are shifted in, and what the cells held is shifted out. (Full scan: Bushnell and Agrawal, Essentials of Electronic Testing.)
use Rattle.std.specs.Prelude.{ℕ, Bool, true, false, List, ◌∷◌, ◌++◌, length, map, replicate}
use Rattle.statement.specs.declared.kinds.Tri.{Tri}
use Rattle.statement.specs.declared.kinds.Tri.TheVariants.{X}
use Rattle.statement.specs.Netlists.{Netlist}
use Rattle.statement.specs.Patterns.{Holds}
use Rattle.statement.specs.Tests.{longest_of, by_chain, word_in, word_out, column, held_or_zero}
use Rattle.statement.specs.Runs.{numbers_from, Cycle}

abbrev pub idle_inputs : Holds → List Bool
idle_inputs holds = map held_or_zero holds

-- Shift t: scan enable 1, the functional inputs idle and the functional outputs not strobed, with a pulse.
abbrev pub shift : Netlist → Holds → List (List Bool) → List (List Tri) → ℕ → Cycle
shift n holds ins outs t = record {
  drive = idle_inputs holds ++ true ∷ column false ins t;
  strobe = replicate (length n.outputs) X ++ column X outs t;
  pulse = true;
}

-- A load brings these bits to the cells, in as many shifts as the longest chain has cells, and strobes what they should hold before.
abbrev pub load : Netlist → Holds → List (List ℕ) → List Bool → List Tri → List Cycle
load n holds chains bits held =
    let m = longest_of chains in
    map (shift n holds (map (word_in m) (by_chain chains bits)) (map (word_out m) (by_chain chains held))) (numbers_from 0 m)
