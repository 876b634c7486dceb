use Rattle.std.proofs.Common.{ap, arith, length, sym, ◌∙◌}
use Rattle.std.proofs.lemmas.Bool.Decides.{nat_tests}
use Rattle.report.proofs.LineLemmas.{next_read, next_valid}
use Rattle.unknown_report.specs.Reports.{IsLine, ended}
use Rattle.unknown_report.proofs.EndedLines.{ended_parts, without_end}
use Rattle.unknown_report.proofs.line_lists.lines_in.Goals as goal

pub returns-in_default : goal.returns-in_default
returns-in_default c =
    without_end c.args.text.now c.lines.rest.now c.lines.lines c.lines.invariant.read c.lines.invariant.valid
    (λ none. let size = ap length none in grind (arith, nat_tests)) c.in_default.ensures

pub lines-preserved : goal.lines-preserved
lines-preserved c = record {
  read = next_read ended c.lines.lines c.push.new.self c.in-Some.parts.0.now c.args.text.now c.lines.rest.now c.in-Some.parts.1.now c.lines.invariant.read
      (c.in-Some.ensures.1 ∙ sym (ended_parts c.in-Some.parts.0.now c.in-Some.parts.1.now)) c.in_ok-push.ensures.ok;
  valid = next_valid IsLine c.lines.lines c.push.new.self c.in-Some.parts.0.now c.lines.invariant.valid c.in-Some.ensures.0 c.in_ok-push.ensures.ok;
}
