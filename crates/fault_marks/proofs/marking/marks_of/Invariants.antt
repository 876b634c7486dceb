use Rattle.std.proofs.Common.{ℕ, List, take}
use Rattle.statement.specs.Faults.{universe_of}
use Rattle.fault_marks.specs.inner.Kept.{AreKept, AreMarked}
use Rattle.fault_marks.proofs.marking.marks_of.Given as goal

abbrev pub invariant-loop-place : goal.invariant-loop-place
invariant-loop-place l = (lines : List (List ℕ)) → AreKept l.kept.keys lines → AreMarked l.netlist lines (take l.place (universe_of l.netlist)) l.marks.items
