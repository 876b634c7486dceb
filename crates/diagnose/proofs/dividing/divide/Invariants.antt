use Rattle.std.proofs.Common.{take}
use Rattle.diagnose.specs.inner.Ranks.{AreDivided}
use Rattle.diagnose.proofs.dividing.divide.Given as goal

abbrev pub invariant-loop-place : goal.invariant-loop-place
invariant-loop-place l = AreDivided l.netlist l.vectors (take l.place l.failures) l.strobed l.strangers
