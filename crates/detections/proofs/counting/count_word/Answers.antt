use Rattle.std.proofs.Common.{◌-◌, arith}
use Rattle.detections.proofs.Counts.{count_word_more}
use Rattle.detections.proofs.counting.count_word.Goals as goal

pub loop-j-preserved : goal.loop-j-preserved
loop-j-preserved c =
    count_word_more c.args.word c.args.start c.args.end c.args.most c.args.times c.args.needed.now.items c.loop-j.j (c.loop-j.j - 1) c.loop-j.count c.count_one-count.result c.has_bit.result
    c.loop-j.needed.items c.count_one-count.new.needed.items c.loop-j.invariant (omega arith) (omega arith) (omega arith) c.has_bit.ensures c.count_one-count.ensures.times c.count_one-count.ensures.needed
