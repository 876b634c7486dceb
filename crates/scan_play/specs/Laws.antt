-- Laws that join patterns to the tester, each the contract of a function of its name.
use Rattle.std.specs.Prelude.{ℕ, ◌≡◌, ◌≢◌, ◌+◌, ◌*◌, Bool, List, length, slice_get, Option, Some, None}
use Rattle.std.specs.Bool.{Decides}
use Rattle.std.specs.List.{All, AllZip}
use Rattle.statement.specs.declared.kinds.Tri.{Tri}
use Rattle.statement.specs.declared.kinds.Tri.TheVariants.{X}
use Rattle.statement.specs.declared.lines.Fault.{Fault}
use Rattle.statement.specs.declared.lines.Point.{Point}
use Rattle.statement.specs.Netlists.{Netlist, cells}
use Rattle.netlist.specs.Netlist.{IsAcyclic}
use Rattle.statement.specs.Patterns.{Holds, Obeys, Detects, Pattern}
use Rattle.netlist.specs.Holds.{AreHoldsOf}
use Rattle.netlist.specs.Conditions.{IsClosed, IsNumbered, IsSound}
use Rattle.statement.specs.Values.{Table, bit_table}
use Rattle.netlist.specs.ThreeValues.{AreAllowed}
use Rattle.tri.specs.Settled.{tri_table}
use Rattle.netlist.specs.Detection.{IsRedundant}
use Rattle.statement.specs.Tests.{longest_of, IsStrobedAt}
use Rattle.netlist.specs.Lines.{IsLineOf, IsFaultOf}
use Rattle.scan_insert.specs.Scanned.{AreChainsOf, sites_of, scanned_of, fault_at}
use Rattle.scan_play.specs.declared.played.Played.{Played}
use Rattle.scan_play.specs.declared.played.Played.TheVariants.{Passes, Fails, Unknown}
use Rattle.statement.specs.Runs.{Cycle, Runs, FailsAt}
use Rattle.scan_play.specs.Cycles.{IsCycleOf}
use Rattle.statement.specs.Runs as test
use Rattle.scan_play.specs.Vectors.{AreVectors}
use Rattle.scan_play.specs.Playing.{PlayRuns, PlaysAs}

-- ---- runs

-- From each state there is a run.
abbrev pub SomeRun : Type 0 → Type 0
SomeRun V =
    (blank : V) (table : Table V) (f : Option Fault) (n : Netlist) (state : List V) (cycles : List Cycle)
    → IsNumbered n → IsClosed n → IsAcyclic n → length state ≡ length (cells n) → All (IsCycleOf n) cycles
    → (shown : List (List V)) × Runs table f n state cycles shown

-- It shows one thing.
abbrev pub RunsOnce : Type 0 → Type 0
RunsOnce V =
    (same : V → V → Bool) → ((x y : V) → Decides (same x y) (x ≡ y))
    → (table : Table V) (f : Option Fault) (n : Netlist) (state : List V) (cycles : List Cycle) (shown shown' : List (List V))
    → IsClosed n → IsAcyclic n → Runs table f n state cycles shown → Runs table f n state cycles shown' → shown ≡ shown'

-- A run in three values allows the run of each choice for the Xs at its start.
abbrev pub ThreeValuesAboveRuns : Type 0
ThreeValuesAboveRuns =
    (f : Option Fault) (n : Netlist) (state : List Tri) (bit_state : List Bool) (cycles : List Cycle) (shown : List (List Tri)) (bits : List (List Bool))
    → IsClosed n → IsAcyclic n → AreAllowed state bit_state
    → Runs tri_table f n state cycles shown → Runs bit_table f n bit_state cycles bits
    → AllZip AreAllowed shown bits

-- What the player answers holds from every power-up state.
pub record PlayTells (n : Netlist) (f : Option Fault) (cycles : List Cycle) : Type 0 where
  pub passes : PlaysAs n f cycles Passes → test.Passes n f cycles
  pub fails : (c o : ℕ) → PlaysAs n f cycles (Fails c o) → FailsAt n f cycles c o

abbrev pub PlayTellsTheTruth : Type 0
PlayTellsTheTruth = (n : Netlist) (f : Option Fault) (cycles : List Cycle) → IsClosed n → IsAcyclic n → All (IsCycleOf n) cycles → PlayTells n f cycles

-- ---- from patterns to the tester

-- the fault of the original stands in the scanned netlist
abbrev pub moved : Netlist → List (List ℕ) → Option Fault → Option Fault
moved n chains f = fault_at (sites_of n chains) f

-- The vectors fit the scanned netlist.
abbrev pub VectorsFit : Type 0
VectorsFit =
    (n : Netlist) (holds : Holds) (chains : List (List ℕ)) (patterns : List Pattern) (cycles : List Cycle)
    → IsSound n → AreChainsOf n chains → AreVectors n holds chains patterns cycles
    → All (IsCycleOf (scanned_of n chains)) cycles

-- With P patterns and chains of M cells at most there are (P + 4) * M + P cycles.
abbrev pub VectorsCounted : Type 0
VectorsCounted =
    (n : Netlist) (holds : Holds) (chains : List (List ℕ)) (patterns : List Pattern) (cycles : List Cycle) → AreVectors n holds chains patterns cycles
    → length cycles ≡ (length patterns + 4) * longest_of chains + length patterns

-- The fault-free scanned netlist passes.
abbrev pub GoodPasses : Type 0
GoodPasses =
    (n : Netlist) (holds : Holds) (chains : List (List ℕ)) (patterns : List Pattern) (cycles : List Cycle)
    → IsSound n → AreChainsOf n chains → AreVectors n holds chains patterns cycles
    → test.Passes (scanned_of n chains) None cycles

-- Each cycle drives the held inputs with their bits, where the patterns do.
abbrev pub VectorsObey : Type 0
VectorsObey =
    (n : Netlist) (holds : Holds) (chains : List (List ℕ)) (patterns : List Pattern) (cycles : List Cycle)
    → AreVectors n holds chains patterns cycles → All (λ (p : Pattern). Obeys holds p.inputs) patterns
    → All (λ (cycle : Cycle). Obeys holds cycle.drive) cycles

-- Where no pattern detects the fault, the faulty scanned netlist passes.
abbrev pub UndetectedPasses : Type 0
UndetectedPasses =
    (n : Netlist) (holds : Holds) (chains : List (List ℕ)) (patterns : List Pattern) (cycles : List Cycle) (f : Fault)
    → IsSound n → AreChainsOf n chains → AreVectors n holds chains patterns cycles → IsLineOf n f.line
    → All (λ (p : Pattern). (point : Point) → ¬ Detects n f p.inputs p.cells point) patterns
    → test.Passes (scanned_of n chains) (moved n chains (Some f)) cycles

-- Where a pattern detects the fault at a point, the faulty scanned netlist fails in the cycle and at the output where that point is strobed.
abbrev pub DetectedFails : Type 0
DetectedFails =
    (n : Netlist) (holds : Holds) (chains : List (List ℕ)) (patterns : List Pattern) (cycles : List Cycle) (f : Fault) (p : ℕ) (pattern : Pattern) (point : Point) (c o : ℕ)
    → IsSound n → AreChainsOf n chains → AreVectors n holds chains patterns cycles → IsLineOf n f.line
    → slice_get patterns p ≡ Some pattern → Detects n f pattern.inputs pattern.cells point → IsStrobedAt n chains p point c o
    → FailsAt (scanned_of n chains) (moved n chains (Some f)) cycles c o

-- In three values, without a fault or with any, what is shown is known wherever it is strobed.
abbrev pub StrobesKnown : Type 0
StrobesKnown =
    (n : Netlist) (holds : Holds) (chains : List (List ℕ)) (patterns : List Pattern) (cycles : List Cycle) (f : Option Fault) (shown : List (List Tri))
    → IsSound n → AreChainsOf n chains → AreVectors n holds chains patterns cycles → IsFaultOf n f
    → PlayRuns (scanned_of n chains) (moved n chains f) cycles shown
    → AllZip (λ (cycle : Cycle) values. AllZip (λ strobe value. strobe ≢ X → value ≢ X) cycle.strobe values) cycles shown

-- So the player never answers Unknown, and it answers Passes on the fault-free netlist.
pub record PlayDecides (n : Netlist) (chains : List (List ℕ)) (cycles : List Cycle) : Type 0 where
  pub known : (f : Option Fault) (c o : ℕ) → IsFaultOf n f → ¬ PlaysAs (scanned_of n chains) (moved n chains f) cycles (Unknown c o)
  pub good : (played : Played) → PlaysAs (scanned_of n chains) None cycles played → played ≡ Passes

abbrev pub VectorsDecide : Type 0
VectorsDecide =
    (n : Netlist) (holds : Holds) (chains : List (List ℕ)) (patterns : List Pattern) (cycles : List Cycle)
    → IsSound n → AreChainsOf n chains → AreVectors n holds chains patterns cycles → PlayDecides n chains cycles

-- ---- no test

-- No sequence of drives and pulses that obeys the held inputs shows a redundant fault on the scanned netlist, scan on or off:
-- from one power-up state all outputs agree in every cycle.
abbrev pub NoSequenceDetectsRedundant : Type 0
NoSequenceDetectsRedundant =
    (n : Netlist) (holds : Holds) (chains : List (List ℕ)) (f : Fault) (state : List Bool) (cycles : List Cycle) (shown shown' : List (List Bool))
    → IsSound n → AreHoldsOf n holds → AreChainsOf n chains → IsLineOf n f.line → IsRedundant n holds f
    → All (λ (cycle : Cycle). Obeys holds cycle.drive) cycles
    → Runs bit_table None (scanned_of n chains) state cycles shown
    → Runs bit_table (moved n chains (Some f)) (scanned_of n chains) state cycles shown'
    → shown ≡ shown'
