use Rattle.std.proofs.Common.{length, sym, subst}
use Rattle.lane_play.specs.inner.Spans.{IsSpanned}
use Rattle.lane_play.proofs.Stuckness.{any_fault, pass_all}
use Rattle.lane_play.proofs.stuck.StuckLogic.line.Goals as goal

pub returns-then-is_empty : goal.returns-then-is_empty
returns-then-is_empty c =
    let faults = c.args.self.now.faults.now in
    sym (pass_all faults c.args.line.now c.span-span.result (subst (λ x. IsSpanned faults (length faults) x c.span-span.result) c.signal_of.ensures c.span-span.ensures)
    c.args.value any_fault (c.is_empty.ensures.empty c.if-is_empty.true))
