use Rattle.stil_write.specs.StilFiles.{item_at, words_of}
use Rattle.stil_write.proofs.PieceLemmas.{assignments_more}
use Rattle.stil_write.proofs.pieces.push_assignments.Goals as goal

pub loop-k-preserved : goal.loop-k-preserved
loop-k-preserved c =
    assignments_more c.args.signals.now (words_of (item_at c.args.items.now c.args.place)) c.loop-k.k c.get.result.now c.word.result.now c.args.out.now.items c.loop-k.out.items c.push_assignment.new.out.items
    c.get.ensures c.word.ensures c.loop-k.invariant c.in_ok-push_assignment.ensures
