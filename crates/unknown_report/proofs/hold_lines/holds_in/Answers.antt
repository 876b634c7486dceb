use Rattle.report.specs.Texts.{hold_line}
use Rattle.report.specs.inner.Lines.{IsHold}
use Rattle.report.proofs.LineLemmas.{next_read, next_valid}
use Rattle.unknown_report.proofs.hold_lines.holds_in.Goals as goal

pub holds-preserved : goal.holds-preserved
holds-preserved c = record {
  read = next_read hold_line c.holds.holds c.in_ok-holds.holds (record { name = c.in-Some.name.now; bit = c.in-Some.bit }) c.args.text.now c.holds.rest.now
      c.in-Some.after.now c.holds.invariant.read c.in-Some.ensures.1 c.in_ok-holds.ensures;
  valid = next_valid IsHold c.holds.holds c.in_ok-holds.holds (record { name = c.in-Some.name.now; bit = c.in-Some.bit }) c.holds.invariant.valid
      c.in-Some.ensures.0 c.in_ok-holds.ensures;
}
