use Rattle.std.proofs.Common.{◌<◌, length, ◌∙◌, arith}
use Rattle.refutation_check.specs.inner.Marks.{marked}
use Rattle.refutation_check.proofs.MarkLemmas.{reached_more, passed_more, marked_at}
use Rattle.refutation_check.proofs.cones.spread.Goals as goal

pub returns-in_err-mark_readers-clause-least : goal.returns-in_err-mark_readers-clause-least
returns-in_err-mark_readers-clause-least c =
    let old = marked c.loop-next.marks.items c.loop-next.list.items in
    let id = c.index-id.result.now in
    let low : c.loop-next.next < length c.loop-next.list.items = let a = c.loop-next-test.true in let b = c.len.ensures in omega arith in
    reached_more c.args.netlist.now (marked c.args.marks.now.items c.args.list.now.items) old (marked c.mark_readers.new.marks.items c.mark_readers.new.list.items) id
    (marked_at old c.loop-next.next id c.loop-next.invariant.listed low c.index-id.ensures) c.in_err-mark_readers.ensures.spreads c.loop-next.invariant.least

pub loop-next-preserved : goal.loop-next-preserved
loop-next-preserved c =
    let n = c.args.netlist.now in
    let old = marked c.loop-next.marks.items c.loop-next.list.items in
    let new = marked c.mark_readers.new.marks.items c.mark_readers.new.list.items in
    let id = c.index-id.result.now in
    let s = c.in_ok-mark_readers.ensures.spreads in
    let low : c.loop-next.next < length c.loop-next.list.items = let a = c.loop-next-test.true in let b = c.len.ensures in omega arith in
    record {
      size = s.size ∙ c.loop-next.invariant.size;
      listed = s.listed c.loop-next.invariant.listed;
      kept = λ x h. s.kept x (c.loop-next.invariant.kept x h);
      least = reached_more n (marked c.args.marks.now.items c.args.list.now.items) old new id (marked_at old c.loop-next.next id c.loop-next.invariant.listed low c.index-id.ensures) s
          c.loop-next.invariant.least;
      passed = passed_more n old new id c.loop-next.next low c.index-id.ensures s c.in_ok-mark_readers.ensures.passed c.loop-next.invariant.passed;
    }
