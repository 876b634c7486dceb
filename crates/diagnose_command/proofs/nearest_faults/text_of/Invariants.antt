use Rattle.std.proofs.Common.{◌≡◌, ◌++◌, length, take}
use Rattle.diagnose_command.specs.Diagnoses.{nearest_line, ranked_lines}
use Rattle.diagnose_command.proofs.nearest_faults.text_of.Given as goal

abbrev pub invariant-loop-ranked : goal.invariant-loop-ranked
invariant-loop-ranked l = l.text.items ≡ nearest_line (length l.ranking) ++ ranked_lines l.netlist (take l.ranked-index l.ranking)
