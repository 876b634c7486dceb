use Rattle.std.proofs.Common.{◌<◌, length, get_or, sym, ◌∙◌, subst}
use Rattle.std.proofs.lemmas.List.{take_all}
use Rattle.refutation.specs.Refutations.{Told}
use Rattle.refutation_check.specs.inner.Sweeps.{AreTouched}
use Rattle.refutation_check.proofs.Touches.{touched_more}
use Rattle.refutation_check.proofs.TrailLemmas.{grows_then}
use Rattle.refutation_check.proofs.starting.touch_all.Goals as goal

pub touch-requires : goal.touch-requires
touch-requires c =
    subst (λ y. y < length c.loop-k.sets.told) (sym c.index-list-k.is)
    (subst (λ (t : Told). get_or c.args.list.now c.loop-k.k c.index-list-k.result < length t) (sym c.loop-k.invariant.told) (c.requires c.loop-k.k c.index-list-k.result c.loop-k-test.true))

pub returns-in_err-touch-clause-grows : goal.returns-in_err-touch-clause-grows
returns-in_err-touch-clause-grows c = grows_then c.args.sets.now c.loop-k.sets c.touch.new.self c.loop-k.invariant.grows c.touch.ensures.grows

pub loop-k-preserved : goal.loop-k-preserved
loop-k-preserved c = record {
  grows = grows_then c.args.sets.now c.loop-k.sets c.touch.new.self c.loop-k.invariant.grows c.touch.ensures.grows;
  told = c.touch.ensures.told ∙ c.loop-k.invariant.told;
  touched = touched_more c.args.sets.now c.loop-k.sets c.touch.new.self c.args.list.now c.loop-k.k c.index-list-k.result c.loop-k-test.true c.index-list-k.is c.touch.ensures.grows
      c.in_ok-touch.ensures.touched c.loop-k.invariant.grows c.loop-k.invariant.touched;
}

pub returns-clause-touched : goal.returns-clause-touched
returns-clause-touched c =
    subst (AreTouched c.loop-k.sets (length c.args.sets.now.trail)) (take_all c.loop-k.k c.args.list.now c.loop-k-test.false) c.loop-k.invariant.touched
