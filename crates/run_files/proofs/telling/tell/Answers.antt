use Rattle.std.proofs.Common.{◌<◌, length, None, get_or, refl, arith}
use Rattle.list_core.specs.Verdicts.{verdict_at}
use Rattle.run_files.specs.inner.Often.{told_verdict}
use Rattle.run_files.proofs.TellLemmas.{told_more, untold_stay}
use Rattle.run_files.proofs.telling.tell.Goals as goal

pub loop-class-preserved : goal.loop-class-preserved
loop-class-preserved c =
    let i = c.loop-class.invariant in
    let k = c.loop-class.class in
    let old = c.loop-class.verdicts.items in
    let last = c.args.last.now in
    let known = get_or last k None in
    let within : k < length old = omega (arith, c.requires, i.size, c.loop-class-test.true) in
    record {
      size = omega (arith, c.tell_one.ensures.size, i.size);
      told = told_more last c.args.verdicts.now.items old c.tell_one.new.verdicts.items k known refl within c.tell_one.ensures.told i.told i.others;
      others = untold_stay c.args.verdicts.now.items old c.tell_one.new.verdicts.items k (told_verdict known (verdict_at old k)) c.tell_one.ensures.told i.others;
    }
