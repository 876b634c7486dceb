use Rattle.regions.specs.Paths.{AreOpen}
use Rattle.regions.proofs.paths.open_gate.Given as goal

abbrev pub invariant-loop-place : goal.invariant-loop-place
invariant-loop-place l = AreOpen l.netlist l.values l.heads.items l.opens.items
