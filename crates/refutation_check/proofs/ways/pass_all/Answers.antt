use Rattle.std.proofs.Common.{◌<◌, length, ◌∙◌, arith}
use Rattle.refutation_check.specs.inner.Marks.{marked}
use Rattle.refutation_check.specs.inner.Ways.{IsPassed, IsObserved}
use Rattle.refutation_check.proofs.MarkLemmas.{marked_at}
use Rattle.refutation_check.proofs.CheckLemmas.{at_true, at_false}
use Rattle.refutation_check.proofs.WayLemmas.{ways_more, ways_passed_more}
use Rattle.refutation_check.proofs.ways.pass_all.Goals as goal

pub returns-then-not-passed-clause-so : goal.returns-then-not-passed-clause-so
returns-then-not-passed-clause-so c =
    let n = c.args.netlist.now in
    let told = c.args.told.now in
    let old = marked c.loop-next.marks.items c.loop-next.list.items in
    let new = marked c.pass.new.marks.items c.pass.new.list.items in
    let id = c.index-id.result.now in
    let low : c.loop-next.next < length c.loop-next.list.items = let a = c.loop-next-test.true in let b = c.len.ensures in omega arith in (
      id,
      at_false c.in_ok-passed.passed (IsPassed n told new id) (IsObserved n id) c.in_ok-passed.ensures.so c.if-not-passed.true,
      c.loop-next.invariant.on id (marked_at old c.loop-next.next id c.loop-next.invariant.listed low c.index-id.ensures),
    )

pub loop-next-preserved : goal.loop-next-preserved
loop-next-preserved c =
    let n = c.args.netlist.now in
    let told = c.args.told.now in
    let start = marked c.args.marks.now.items c.args.list.now.items in
    let old = marked c.loop-next.marks.items c.loop-next.list.items in
    let new = marked c.pass.new.marks.items c.pass.new.list.items in
    let id = c.index-id.result.now in
    let s = c.in_ok-passed.ensures.spreads in
    let low : c.loop-next.next < length c.loop-next.list.items = let a = c.loop-next-test.true in let b = c.len.ensures in omega arith in
    record {
      size = s.size ∙ c.loop-next.invariant.size;
      listed = s.listed c.loop-next.invariant.listed;
      kept = λ x h. s.kept x (c.loop-next.invariant.kept x h);
      on = ways_more n told start old new id (marked_at old c.loop-next.next id c.loop-next.invariant.listed low c.index-id.ensures) s c.loop-next.invariant.on;
      passed = ways_passed_more n told old new id c.loop-next.next low c.index-id.ensures s
          (at_true c.in_ok-passed.passed (IsPassed n told new id) (IsObserved n id) c.in_ok-passed.ensures.so c.if-not-passed.false) c.loop-next.invariant.passed;
    }
