-- Marks of the signals that slow lines read.
use Rattle.std.specs.Prelude.{◌≡◌, ◌≤◌, Bool, false, List, length, slice_index_or, IsTrue}
use Rattle.std.specs.List.{All}
use Rattle.statement.specs.declared.lines.Fault.{Fault}
use Rattle.netlist.specs.Conditions.{IsSound}
use Rattle.statement.specs.Netlists.{Netlist, signals}
use Rattle.transition_frames.specs.Frames.{source_of}

-- a mark for each signal, and each of these lines reads one that is marked
pub record AreSourcesMarked (n : Netlist) (fs : List Fault) (marks : List Bool) : Type 0 where
  pub size : length marks ≡ length (signals n)
  pub each : All (λ (f : Fault). IsTrue (slice_index_or marks (source_of n f.line) false)) fs

-- a design with a batch of slow lines, and the marks of what they read
pub record IsBatch (n : Netlist) (fs : List Fault) (marks : List Bool) : Type 0 where
  pub sound : IsSound n
  pub small : length (signals n) ≤ 1000000
  pub few : length fs ≤ 1024
  pub marked : AreSourcesMarked n fs marks
