use Rattle.std.proofs.Common.{MatchResult, subst}
use Rattle.statement.specs.Patterns.{Holds}
use Rattle.statement.specs.Netlists.{Netlist}
use Rattle.refutation.specs.Refutations.{Refutes}
use Rattle.refutation_check.specs.Refusals.{IsRefutationFault}
use Rattle.refutation_check.proofs.checking.check_refutation.Goals as goal

pub returns-in-Ok : goal.returns-in-Ok
returns-in-Ok c =
    let f = c.args.fault.now in
    let steps = c.args.steps.now in
    subst (λ (n : Netlist). MatchResult c.check.result (λ _. Refutes f n c.args.holds.now steps) (IsRefutationFault f n c.args.holds.now steps)) c.in-Ok.ensures.0
    (subst (λ (h : Holds). MatchResult c.check.result (λ _. Refutes f c.in-Ok.checker.netlist h steps) (IsRefutationFault f c.in-Ok.checker.netlist h steps)) c.in-Ok.ensures.1
    c.check.ensures.answer)
