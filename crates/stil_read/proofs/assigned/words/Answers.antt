use Rattle.std.proofs.Common.{arith}
use Rattle.stil_read.proofs.AssignLemmas.{assign_end, assign_more, assign_none}
use Rattle.stil_read.proofs.assigned.words.Goals as goal

pub returns-in_default : goal.returns-in_default
returns-in_default c = assign_none c.args.labels.now c.loop-place.place c.get.result.now _ _ _ c.get.ensures c.loop-place.invariant c.in_default.ensures.next

pub loop-place-preserved : goal.loop-place-preserved
loop-place-preserved c =
    assign_more c.args.labels.now c.loop-place.place c.get.result.now c.loop-place.words c.push.new.self c.in-Some.word.now _ _ _ c.get.ensures c.loop-place.invariant c.in-Some.ensures.next c.in_ok-push.ensures.ok

pub returns : goal.returns
returns c = assign_end c.args.labels.now c.loop-place.place _ _ _ (omega arith) c.loop-place.invariant
