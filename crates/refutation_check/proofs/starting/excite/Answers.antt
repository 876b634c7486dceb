use Rattle.std.proofs.Common.{◌<◌, length, ap, sym, ◌∙◌, subst}
use Rattle.std.specs.List.{All}
use Rattle.refutation.specs.declared.pairs.Pairs.{Pairs}
use Rattle.refutation.specs.Refutations.{carried, narrowed}
use Rattle.refutation_check.specs.inner.Sweeps.{IsTouched}
use Rattle.refutation_check.proofs.LookLemmas.{touched_then}
use Rattle.refutation_check.proofs.Touches.{are_touched_from, on_ok, on_ok_then, touched_from}
use Rattle.refutation_check.proofs.TrailLemmas.{grows_then}
use Rattle.refutation_check.proofs.starting.excite.Goals as goal

pub returns-in_err-touch-clause-grows : goal.returns-in_err-touch-clause-grows
returns-in_err-touch-clause-grows c = grows_then c.args.sets.now c.narrow.new.self c.touch.new.self c.in_ok-narrow.ensures.grows c.touch.ensures.grows

pub returns-clause-grows : goal.returns-clause-grows
returns-clause-grows c =
    grows_then c.args.sets.now c.touch.new.self c.touch_all.new.sets (grows_then c.args.sets.now c.narrow.new.self c.touch.new.self c.in_ok-narrow.ensures.grows c.touch.ensures.grows)
    c.touch_all.ensures.grows

pub returns-clause-excited : goal.returns-clause-excited
returns-clause-excited c =
    let old = c.args.sets.now in
    let mid = c.narrow.new.self in
    let new = c.touch_all.new.sets in
    on_ok c.touch_all.result (subst (IsTouched new (length old.trail)) c.carried.ensures.is
    (touched_then mid new (length old.trail) c.carried.result (grows_then mid c.touch.new.self new c.touch.ensures.grows c.touch_all.ensures.grows) c.in_ok-narrow.ensures.touched))

pub returns-clause-line : goal.returns-clause-line
returns-clause-line c =
    let old = c.args.sets.now in
    let mid = c.narrow.new.self in
    let touched = c.touch.new.self in
    let new = c.touch_all.new.sets in
    let id = c.signal_of-id.result in
    on_ok c.touch_all.result (subst (IsTouched new (length old.trail)) c.signal_of-id.ensures.is
    (touched_from old mid new id c.in_ok-narrow.ensures.grows (touched_then touched new (length mid.trail) id c.touch_all.ensures.grows c.in_ok-touch.ensures.touched)))

pub returns-clause-told : goal.returns-clause-told
returns-clause-told c =
    let told = c.args.sets.now.told in
    let line = c.args.fault.now.line in
    on_ok c.touch_all.result (c.touch_all.ensures.told ∙ (c.touch.ensures.told ∙ (c.in_ok-narrow.ensures.told
    ∙ (ap (λ x. narrowed told (record { signal = x; pairs = c.good_is.result })) c.carried.ensures.is
    ∙ ap (λ (s : Pairs). narrowed told (record { signal = carried c.args.netlist.now line; pairs = s })) c.good_is.ensures))))

pub returns-clause-fixed : goal.returns-clause-fixed
returns-clause-fixed c =
    let old = c.args.sets.now in
    let mid = c.touch.new.self in
    let new = c.touch_all.new.sets in
    on_ok_then c.touch_all.result
    (are_touched_from old mid new c.args.fixed.now (grows_then old c.narrow.new.self mid c.in_ok-narrow.ensures.grows c.touch.ensures.grows)) c.touch_all.ensures.touched

pub touch_all-requires : goal.touch_all-requires
touch_all-requires c =
    let size = ap length c.touch.ensures.told ∙ c.in_ok-narrow.ensures.grows.size in
    subst (λ m. All (λ x. x < m) c.args.fixed.now) (sym size) c.requires.fixed
