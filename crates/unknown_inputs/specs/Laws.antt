-- Laws of the opened netlist, each the contract of a function of its name.
use Rattle.std.specs.Prelude.{ℕ, ◌≡◌, ◌<◌, ◌≤◌, Bool, List, map, length, Option, Some, None}
use Rattle.std.specs.List.{All, AllZip, Contains}
use Rattle.statement.specs.declared.kinds.Tri.{Tri}
use Rattle.statement.specs.declared.lines.Fault.{Fault}
use Rattle.statement.specs.declared.lines.Line.{Line}
use Rattle.statement.specs.Netlists.{Netlist, signals, name_of}
use Rattle.statement.specs.Patterns.{Holds, Obeys}
use Rattle.statement.specs.Values.{bit_table}
use Rattle.statement.specs.Runs.{Cycle, Runs}
use Rattle.netlist.specs.Conditions.{IsSound}
use Rattle.netlist.specs.Lines.{IsLineOf, IsFaultOf}
use Rattle.netlist.specs.ThreeValues.{AreAllowed}
use Rattle.scan_play.specs.Cycles.{IsCycleOf}
use Rattle.scan_play.specs.Playing.{PlayRuns, PlaysAs}
use Rattle.scan_play.specs.declared.played.Played.TheVariants.{Passes, Fails}
use Rattle.unknown_inputs.specs.Unknowns.{Unknowns, known_part, IsFilled, PassesWhatever, FailsWhateverAt, holds_at_zero, IsUntold}
use Rattle.unknown_inputs.specs.Opened.{opened, opened_number, opened_line, fault_opened}

-- The opened netlist meets every condition of a netlist, if an input is known.
abbrev pub OpenedIsSound : Type 0
OpenedIsSound = (n : Netlist) (unknown : Unknowns) → IsSound n → 0 < length (known_part unknown n.inputs) → IsSound (opened n unknown)

-- A line of the netlist stands in the opened one.
abbrev pub OpenedHasLines : Type 0
OpenedHasLines = (n : Netlist) (unknown : Unknowns) (line : Line) → IsSound n → IsLineOf n line → IsLineOf (opened n unknown) (opened_line n unknown line)

-- Names move along with their signals: so the pins are those of the netlist, but for the unknown inputs.
pub record KeepsNames (n : Netlist) (unknown : Unknowns) : Type 0 where
  pub signals : (x : ℕ) → Contains (signals n) x → name_of (opened n unknown) (opened_number n unknown x) ≡ name_of n x
  pub inputs : map (name_of (opened n unknown)) (opened n unknown).inputs ≡ known_part unknown (map (name_of n) n.inputs)
  pub outputs : map (name_of (opened n unknown)) (opened n unknown).outputs ≡ map (name_of n) n.outputs

abbrev pub OpenedKeepsNames : Type 0
OpenedKeepsNames = (n : Netlist) (unknown : Unknowns) → IsSound n → KeepsNames n unknown

-- What three-valued play shows on the opened netlist allows what the netlist shows, whatever the unknown inputs have and from every power-up state.
abbrev pub OpenedAllows : Type 0
OpenedAllows =
    (n : Netlist) (unknown : Unknowns) (f : Option Fault) (cycles wholes : List Cycle) (shown : List (List Tri)) (state : List Bool) (bits : List (List Bool))
    → IsSound n → IsFaultOf n f → AllZip (IsFilled unknown) cycles wholes
    → PlayRuns (opened n unknown) (fault_opened n unknown f) cycles shown → Runs bit_table f n state wholes bits
    → AllZip AreAllowed shown bits

-- What the player answers of the opened netlist holds of the netlist whatever the unknown inputs have.
pub record OpenedTells (n : Netlist) (unknown : Unknowns) (f : Option Fault) (cycles : List Cycle) : Type 0 where
  pub passes : PlaysAs (opened n unknown) (fault_opened n unknown f) cycles Passes → PassesWhatever n unknown f cycles
  pub fails : (c o : ℕ) → PlaysAs (opened n unknown) (fault_opened n unknown f) cycles (Fails c o) → FailsWhateverAt n unknown f cycles c o

abbrev pub OpenedTellsTheTruth : Type 0
OpenedTellsTheTruth =
    (n : Netlist) (unknown : Unknowns) (f : Option Fault) (cycles : List Cycle)
    → IsSound n → IsFaultOf n f → All (IsCycleOf (opened n unknown)) cycles → OpenedTells n unknown f cycles

-- A fault that nothing tells while the unknown inputs have 0 fails no test of known bits that obeys the held inputs, whatever they have:
-- of no strobe is it known that the good netlist meets it and the faulty one doesn't.
abbrev pub HeldUnknownIsUntold : Type 0
HeldUnknownIsUntold =
    (n : Netlist) (unknown : Unknowns) (holds : Holds) (f : Fault) (cycles : List Cycle) (c o : ℕ)
    → IsSound n → length unknown ≤ length n.inputs → IsUntold n (holds_at_zero unknown holds) f
    → All (IsCycleOf (opened n unknown)) cycles → All (λ (cycle : Cycle). Obeys (known_part unknown holds) cycle.drive) cycles
    → PassesWhatever n unknown None cycles → ¬ FailsWhateverAt n unknown (Some f) cycles c o
