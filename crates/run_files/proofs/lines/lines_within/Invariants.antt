use Rattle.run_files.specs.inner.Outcomes.{AreLines}
use Rattle.run_files.proofs.lines.lines_within.Given as goal

abbrev pub invariant-loop-i : goal.invariant-loop-i
invariant-loop-i l = AreLines l.case.netlist.now l.case.chains.now l.case.subject.now.classes.numbers l.case.asked.now l.verdicts l.i l.lines
