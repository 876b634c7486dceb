use Rattle.std.proofs.Common.{◌-◌, arith, length, refl, take}
use Rattle.report.proofs.OutcomeLemmas.{fault_room, line_found, no_line, other_outcome}
use Rattle.report.proofs.fault_words.fault_in.Goals as goal

pub returns-in_err-rest : goal.returns-in_err-rest
returns-in_err-rest c = rw c.from_residual.ensures (no_line c.args.model c.args.line.now c.in_err-rest.ensures)

pub returns-in_err-outcome : goal.returns-in_err-outcome
returns-in_err-outcome c =
    rw c.from_residual-in_err-outcome.ensures (other_outcome c.args.model c.args.line.now c.in_ok-rest.rest.now c.in_ok-rest.ensures c.in_err-outcome.ensures)

pub overflow_sub-result : goal.overflow_sub-result
overflow_sub-result c = omega (arith, fault_room c.args.model c.args.line.now c.in_ok-rest.rest.now c.in_ok-rest.ensures)

pub slice_bounds-result-count : goal.slice_bounds-result-count
slice_bounds-result-count c = omega (arith, fault_room c.args.model c.args.line.now c.in_ok-rest.rest.now c.in_ok-rest.ensures)

pub returns : goal.returns
returns c =
    line_found c.args.model c.args.line.now c.in_ok-rest.rest.now c.in_ok-outcome.pin.now (take (length c.args.line.now - length c.in_ok-rest.rest.now - 1) c.args.line.now)
    c.in_ok-outcome.outcome c.in_ok-rest.ensures refl c.in_ok-outcome.ensures.0 c.in_ok-outcome.ensures.1
