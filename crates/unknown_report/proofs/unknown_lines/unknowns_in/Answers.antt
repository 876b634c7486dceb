use Rattle.report.specs.Reports.{IsBenchWord}
use Rattle.report.proofs.LineLemmas.{next_read, next_valid}
use Rattle.unknown_report.specs.Reports.{unknown_line}
use Rattle.unknown_report.proofs.unknown_lines.unknowns_in.Goals as goal

pub unknown-preserved : goal.unknown-preserved
unknown-preserved c = record {
  read = next_read unknown_line c.unknown.unknown c.push.new.self c.in-Some.name.now c.args.text.now c.unknown.rest.now
      c.in-Some.after.now c.unknown.invariant.read c.in-Some.ensures.1 c.in_ok-push.ensures.ok;
  valid = next_valid IsBenchWord c.unknown.unknown c.push.new.self c.in-Some.name.now c.unknown.invariant.valid
      c.in-Some.ensures.0 c.in_ok-push.ensures.ok;
}
