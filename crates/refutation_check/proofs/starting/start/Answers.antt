use Rattle.std.proofs.Common.{◌<◌, length, ap, sym, ◌∙◌, subst, arith}
use Rattle.std.specs.List.{All}
use Rattle.std.proofs.lemmas.List.{length-map}
use Rattle.statement.specs.Netlists.{signals}
use Rattle.refutation.specs.Refutations.{Told, excitation, narrowed}
use Rattle.refutation_check.specs.inner.Marks.{is_marked}
use Rattle.refutation_check.specs.inner.Starting.{own}
use Rattle.refutation_check.specs.inner.Sweeps.{IsCalm}
use Rattle.refutation_check.proofs.CalmStart.{calm_start}
use Rattle.refutation_check.proofs.Touches.{longer}
use Rattle.refutation_check.proofs.TrailLemmas.{grows_then}
use Rattle.refutation_check.proofs.starting.start.Goals as goal

pub returns-in_err-excite-clause-grows : goal.returns-in_err-excite-clause-grows
returns-in_err-excite-clause-grows c = grows_then c.args.sets.now c.widen.new.sets c.excite.new.sets c.in_ok-widen.ensures.grows c.in_err-excite.ensures.grows

pub returns-clause-grows : goal.returns-clause-grows
returns-clause-grows c = grows_then c.args.sets.now c.widen.new.sets c.excite.new.sets c.in_ok-widen.ensures.grows c.in_ok-excite.ensures.grows

pub returns-clause-told : goal.returns-clause-told
returns-clause-told c = c.in_ok-excite.ensures.told ∙ ap (λ (t : Told). narrowed t (excitation c.args.netlist.now c.args.fault.now)) c.in_ok-widen.ensures.told

pub returns-clause-from : goal.returns-clause-from
returns-clause-from c =
    let at = c.depth-from.ensures in
    let long = longer c.widen.new.sets c.excite.new.sets c.in_ok-excite.ensures.grows in
    omega arith

pub returns-clause-calm : goal.returns-clause-calm
returns-clause-calm c =
    let n = c.args.netlist.now in
    let holds = c.args.holds.now in
    let f = c.args.fault.now in
    let mid = c.widen.new.sets in
    let new = c.excite.new.sets in
    let excite = c.in_ok-excite.ensures in
    subst (λ k. IsCalm n f new k) (sym c.depth-from.ensures)
    (calm_start n holds f (is_marked c.args.marks.now) c.requires.cone c.requires.sound c.args.fixed.now c.requires.fixed new (length mid.trail)
    (excite.told ∙ ap (λ (t : Told). narrowed t (excitation n f)) c.in_ok-widen.ensures.told)
    (excite.grows.size ∙ (c.in_ok-widen.ensures.grows.size ∙ (ap length c.requires.told ∙ length-map (signals n) (own holds)))) excite.excited excite.line excite.fixed)

pub excite-requires-clause-fixed : goal.excite-requires-clause-fixed
excite-requires-clause-fixed c =
    let n = c.args.netlist.now in
    let size = c.in_ok-widen.ensures.grows.size ∙ (ap length c.requires.told ∙ length-map (signals n) (own c.args.holds.now)) in
    subst (λ m. All (λ x. x < m) c.args.fixed.now) (sym size) c.requires.fixed.within
