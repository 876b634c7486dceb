use Rattle.check_parts.proofs.ShowLemmas.{bad_misfits}
use Rattle.check_parts.proofs.checkers.tree_ends.Goals as goal

pub returns-in-Err-BadTree-clause-ends : goal.returns-in-Err-BadTree-clause-ends
returns-in-Err-BadTree-clause-ends c =
    bad_misfits c.args.fault.now c.args.checker.now.netlist c.args.checker.now.holds c.args.tree.now c.in-Err-BadTree.field-0-0 (rw c.in-Err-BadTree.field-0-is at c.in-Err-BadTree.ensures.answer)
