use Rattle.std.proofs.Common.{MatchResult, subst}
use Rattle.statement.specs.Patterns.{Holds}
use Rattle.statement.specs.Netlists.{Netlist}
use Rattle.redundancy_cert.specs.Fits.{Fits, AreCounts, IsTreeFault}
use Rattle.redundancy_cert.proofs.checking.check_tree.Goals as goal

pub returns-in-Ok : goal.returns-in-Ok
returns-in-Ok c =
    let f = c.args.fault.now in
    let tree = c.args.tree.now in
    subst (λ (n : Netlist). MatchResult c.check.result (λ k. Fits f n c.args.holds.now tree × AreCounts tree k) (IsTreeFault f n c.args.holds.now tree)) c.in-Ok.ensures.0
    (subst (λ (h : Holds). MatchResult c.check.result (λ k. Fits f c.in-Ok.checker.netlist h tree × AreCounts tree k) (IsTreeFault f c.in-Ok.checker.netlist h tree)) c.in-Ok.ensures.1
    c.check.ensures.answer)
