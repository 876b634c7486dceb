use Rattle.std.proofs.Common.{◌<◌, length, None, get_or, refl, arith}
use Rattle.list_core.specs.Verdicts.{verdict_at}
use Rattle.list_core.specs.inner.Marks.{new_verdict}
use Rattle.list_core.proofs.MarkLemmas.{named_more, others_stay}
use Rattle.list_core.proofs.compaction.rename.Goals as goal

pub loop-class-preserved : goal.loop-class-preserved
loop-class-preserved c =
    let i = c.loop-class.invariant in
    let k = c.loop-class.class in
    let old = c.loop-class.verdicts.items in
    let last = c.args.last.now in
    let known = get_or last k None in
    let within : k < length old = omega (arith, c.requires.size, i.size, c.loop-class-test.true) in
    record {
      size = omega (arith, c.rename_one.ensures.size, i.size);
      named = λ marked are.
          named_more last c.args.verdicts.now.items old c.rename_one.new.verdicts.items k known marked refl within (c.rename_one.ensures.named marked are) (i.named marked are) (i.others marked are);
      others = λ marked are.
          others_stay c.args.verdicts.now.items old c.rename_one.new.verdicts.items k (new_verdict marked known (verdict_at old k)) (c.rename_one.ensures.named marked are) (i.others marked are);
    }
