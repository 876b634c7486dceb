-- The vectors of a test: a flush of the chains, then each pattern loaded and captured, and what was captured unloaded.
use Rattle.std.specs.Prelude.{ℕ, ◌≡◌, ◌+◌, ◌-◌, ◌*◌, ◌%◌, nat_le, Bool, true, false, not, List, [], ◌∷◌, ◌++◌, length, map, replicate, None}
use Rattle.std.specs.List.{AllZip, zip}
use Rattle.statement.specs.declared.kinds.Tri.TheVariants.{X}
use Rattle.statement.specs.declared.kinds.Tri.{Tri}
use Rattle.statement.specs.Netlists.{Netlist}
use Rattle.statement.specs.Patterns.{Holds, Pattern}
use Rattle.netlist.specs.Holds.{AreHoldsOf}
use Rattle.statement.specs.Values.{known}
use Rattle.statement.specs.Tests.{cells_of, Response, Responds, flush}
use Rattle.statement.specs.Runs.{numbers_from, Cycle}
use Rattle.scan_play.specs.Shifts.{load}

-- those of a chain of so many cells
abbrev pub flush_bits : ℕ → List Bool
flush_bits count = map (λ k. nat_le 2 ((count - 1 - k) % 4)) (numbers_from 0 count)

-- A capture: scan enable 0, scan inputs 0, the pattern's inputs, the outputs strobed and the scan outputs not. With no cells there is no clock.
abbrev pub capture : List (List ℕ) → Pattern → Response → Cycle
capture [] p r = record { drive = p.inputs; strobe = map known r.outputs; pulse = false }
capture (chain ∷ chains) p r = record {
  drive = p.inputs ++ false ∷ replicate (length (chain ∷ chains)) false;
  strobe = map known r.outputs ++ replicate (length (chain ∷ chains)) X;
  pulse = true;
}

-- Each pattern's load and capture, and a last load of 0s. Each load strobes what the cells should hold before it.
abbrev pub applied : Netlist → Holds → List (List ℕ) → List Tri → List (Pattern × Response) → List Cycle
applied n holds chains held [] = load n holds chains (replicate (length (cells_of chains)) false) held
applied n holds chains held (test ∷ tests) = load n holds chains test.0.cells held ++ capture chains test.0 test.1 ∷ applied n holds chains (map known test.1.cells) tests

-- Three loads flush the chains: the sequence, its complement and 0s. The first strobes nothing, nor does the first pattern's load.
abbrev pub vectors : Netlist → Holds → List (List ℕ) → List (Pattern × Response) → List Cycle
vectors n holds chains tests =
    let nothing = replicate (length (cells_of chains)) X in
    load n holds chains (flush chains) nothing
    ++ load n holds chains (map not (flush chains)) (map known (flush chains))
    ++ load n holds chains (replicate (length (cells_of chains)) false) (map known (map not (flush chains)))
    ++ applied n holds chains nothing tests

-- The vectors of patterns strobe the responses of the fault-free netlist.
pub record AreVectors (n : Netlist) (holds : Holds) (chains : List (List ℕ)) (patterns : List Pattern) (cycles : List Cycle) : Type 0 where
  pub held : AreHoldsOf n holds
  pub responses : List Response
  pub respond : AllZip (Responds n None) patterns responses
  pub are : cycles ≡ vectors n holds chains (zip patterns responses)

-- Pattern p's capture with chains of m cells at most, and the shift that brings cell k of a chain of so many cells to the scan output.
abbrev pub capture_cycle : ℕ → ℕ → ℕ
capture_cycle m p = 3 * m + p * (m + 1) + m

abbrev pub unload_cycle : ℕ → ℕ → ℕ → ℕ → ℕ
unload_cycle m p count k = 3 * m + (p + 1) * (m + 1) + (count - 1 - k)
