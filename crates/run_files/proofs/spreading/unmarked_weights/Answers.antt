use Rattle.run_files.proofs.SpreadLemmas.{weights_all, weights_more}
use Rattle.run_files.proofs.spreading.unmarked_weights.Goals as goal

pub loop-k-preserved : goal.loop-k-preserved
loop-k-preserved c =
    weights_more c.args.marks.now c.args.weights.now c.loop-k.k c.loop-k.left.items c.push_unmarked.new.left.items c.loop-k-test.true c.requires
    c.loop-k.invariant c.in_ok-push_unmarked.ensures

pub returns : goal.returns
returns c = weights_all c.args.marks.now c.args.weights.now c.loop-k.k c.loop-k.left.items c.loop-k-test.false c.loop-k.invariant
