use Rattle.std.proofs.Common.{subst}
use Rattle.std.specs.List.{All}
use Rattle.statement.specs.Netlists.{Netlist}
use Rattle.bench_text.specs.Bytes.{lines}
use Rattle.fault_marks.specs.Marks.{NamesFault}
use Rattle.fault_marks.proofs.reading.read_marks.Goals as goal

pub returns-in-Ok-marks_of : goal.returns-in-Ok-marks_of
returns-in-Ok-marks_of c = record {
  all = subst (λ (n : Netlist). All (NamesFault n) (lines c.args.text.now)) c.in-Ok.ensures c.in_ok-lines.ensures.0;
  each = c.in-Ok-marks_of.ensures (lines c.args.text.now) c.in_ok-lines.ensures.1;
}
