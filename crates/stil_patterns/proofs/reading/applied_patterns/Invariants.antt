use Rattle.std.proofs.Common.{◌≡◌, length}
use Rattle.stil_patterns.proofs.ReadLemmas.{applied_first}
use Rattle.stil_patterns.proofs.reading.applied_patterns.Given as goal

abbrev pub invariant-loop-place : goal.invariant-loop-place
invariant-loop-place l = l.patterns.items ≡ applied_first l.netlist l.holds (length l.file.chains) l.chains l.file.items l.place
