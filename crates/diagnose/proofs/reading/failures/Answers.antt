use Rattle.diagnose.specs.Failures.{IsFailing}
use Rattle.diagnose.specs.Texts.{failing_line}
use Rattle.report.proofs.LineLemmas.{next_read, next_valid}
use Rattle.diagnose.proofs.reading.failures.Goals as goal

pub lines-preserved : goal.lines-preserved
lines-preserved c = record {
  read = next_read failing_line c.lines.lines c.in_ok-lines.lines (record { cycle = c.in-Some.line.cycle; signal = c.in-Some.line.signal.now }) c.args.text.now c.lines.rest.now
      c.in-Some.after.now c.lines.invariant.read c.in-Some.ensures.1 c.in_ok-lines.ensures;
  valid = next_valid IsFailing c.lines.lines c.in_ok-lines.lines (record { cycle = c.in-Some.line.cycle; signal = c.in-Some.line.signal.now }) c.lines.invariant.valid
      c.in-Some.ensures.0 c.in_ok-lines.ensures;
}
