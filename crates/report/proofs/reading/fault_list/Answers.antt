use Rattle.std.proofs.Common.{ap, arith, length, sym, ◌∙◌}
use Rattle.std.proofs.lemmas.Bool.Decides.{nat_tests}
use Rattle.report.specs.Reports.{IsLineBy}
use Rattle.statement.specs.Reports.{fault_line}
use Rattle.report.proofs.LineLemmas.{next_read, next_valid}
use Rattle.report.proofs.WholeLemmas.{faults_told}
use Rattle.report.proofs.reading.fault_list.Goals as goal

pub returns-in_default : goal.returns-in_default
returns-in_default c = λ ls v e.
    let none = ap length (faults_told c.args.model c.faults.lines ls c.faults.rest.now c.faults.invariant.valid v c.in_default.ensures (sym c.faults.invariant.read ∙ e)).1 in
    grind (arith, nat_tests)

pub faults-preserved : goal.faults-preserved
faults-preserved c = record {
  read = next_read fault_line c.faults.lines c.in_ok-lines.lines
      (record { fault = c.in-Some.line.fault.now; outcome = c.in-Some.line.outcome; pin = c.in-Some.line.pin.now }) c.args.text.now c.faults.rest.now
      c.in-Some.after.now c.faults.invariant.read c.in-Some.ensures.1 c.in_ok-lines.ensures;
  valid = next_valid (IsLineBy c.args.model) c.faults.lines c.in_ok-lines.lines
      (record { fault = c.in-Some.line.fault.now; outcome = c.in-Some.line.outcome; pin = c.in-Some.line.pin.now }) c.faults.invariant.valid
      c.in-Some.ensures.0 c.in_ok-lines.ensures;
}
