use Rattle.std.proofs.Common.{None, get_or, arith}
use Rattle.std.proofs.lemmas.Option.{slice_get-get_or}
use Rattle.list_core.proofs.MarkLemmas.{marks_more}
use Rattle.list_core.proofs.compaction.needed.Goals as goal

pub loop-class-preserved : goal.loop-class-preserved
loop-class-preserved c =
    let i = c.loop-class.invariant in
    let k = c.loop-class.class-index in
    let last = c.args.last.now in
    record {
      size = omega (arith, c.mark.ensures.size, i.size);
      marks = marks_more last k c.loop-class.marks.items c.mark.new.marks.items (get_or last k None) (slice_get-get_or last k None c.loop-class-test.true) c.mark.ensures.marks i.marks;
    }
