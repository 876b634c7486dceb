use Rattle.std.proofs.Common.{arith}
use Rattle.run_files.proofs.SpreadLemmas.{marked_all, marked_more}
use Rattle.run_files.proofs.spreading.marked_weight.Goals as goal

pub loop-k-preserved : goal.loop-k-preserved
loop-k-preserved c =
    let i = c.loop-k.invariant in
    record {
      so_far = marked_more c.args.marks.now c.args.weights.now c.loop-k.k c.loop-k.weight c.if_marked.result c.loop-k-test.true c.requires.0 i.so_far c.if_marked.ensures;
      fits = omega (arith, i.fits, c.if_marked.type_inv);
    }

pub returns : goal.returns
returns c =
    let none = marked_all c.args.marks.now c.args.weights.now c.loop-k.k c.loop-k-test.false in
    omega (arith, c.loop-k.invariant.so_far)
