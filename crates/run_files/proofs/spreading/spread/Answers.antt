use Rattle.std.proofs.Common.{◌+◌, drop}
use Rattle.std.specs.Vec.Iter.{into_iter_items}
use Rattle.run_files.specs.inner.Spread.{spread}
use Rattle.run_files.proofs.SpreadLemmas.{spread_all, spread_more}
use Rattle.run_files.proofs.spreading.spread.Goals as goal

pub loop-marked-preserved : goal.loop-marked-preserved
loop-marked-preserved c =
    let marks = c.args.marks.now in
    let k = c.loop-marked.marked-index in
    spread_more marks k c.loop-marked.all.items c.push.new.self.items (into_iter_items c.loop-marked.rest) (into_iter_items c.next_verdict.new.rest)
    (spread marks c.args.verdicts.items) c.next_verdict.result c.loop-marked-test.true c.loop-marked.invariant (c.next_verdict.ensures (drop (k + 1) marks)) c.in_ok-push.ensures.items

pub returns : goal.returns
returns c =
    spread_all c.args.marks.now c.loop-marked.marked-index c.loop-marked.all.items (into_iter_items c.loop-marked.rest) (spread c.args.marks.now c.args.verdicts.items)
    c.loop-marked-test.false c.loop-marked.invariant
