use Rattle.std.proofs.Common.{◌≡◌, ◌<◌, ◌≤◌, ◌+◌, ◌∙◌, ap, subst, length, get_or, refl, arith, vec_capacity}
use Rattle.std.proofs.lemmas.List.{get_or_default, get_or_read}
use Rattle.events.specs.inner.Running.{Touches}
use Rattle.events.proofs.Running.{none_touched, one_touched}
use Rattle.events.proofs.resettling.touch_each.Goals as goal

pub loop-k-init : goal.loop-k-init
loop-k-init g c = (
  none_touched (g.L.Logic.rule c.args.rule.now) c.args.netlist.now c.args.tables.now.places.items c.args.ids.now c.args.values.now.items c.args.agenda.now c.args.trail.now.items,
  refl,
  omega arith,
)

pub loop-k-preserved : goal.loop-k-preserved
loop-k-preserved g c =
    let ids = c.args.ids.now in
    let k = c.loop-k.k in
    let l : k < length ids = c.loop-k-test.true in
    let here : c.index-ids-k.result ≡ get_or ids k 0 = c.index-ids-k.is ∙ get_or_default ids k c.index-ids-k.result 0 l in
    let low = c.requires.within k 0 l in
    let size = c.loop-k.invariant.0.are_changes.size in
    let all = c.requires.size in
    let pushed = c.touch.ensures.pushed in
    let so_far = c.loop-k.invariant.2 in (
      one_touched (g.L.Logic.rule c.args.rule.now) c.args.netlist.now c.args.tables.now.places.items ids c.args.values.now.items c.loop-k.values.items c.touch.new.values.items
          c.args.agenda.now c.loop-k.agenda c.touch.new.agenda c.args.trail.now.items c.loop-k.trail.items c.touch.new.trail.items k c.index-ids-k.result c.index-driven.result.now
          c.loop-k.invariant.0 c.touch.ensures.puts here
          (λ d. get_or_read c.loop-k.values.items c.index.result c.index-driven.result.now (let i = c.index.ensures in omega arith) c.index-driven.ensures d ∙ ap (λ x. get_or c.loop-k.values.items x d) c.index.ensures) (λ j m. c.requires.distinct j k 0 m l),
      c.touch.ensures.room ∙ c.loop-k.invariant.1,
      omega arith,
    )

pub returns-clause-touches : goal.returns-clause-touches
returns-clause-touches g c =
    let most = c.loop-k.auto.k-end in
    let least = c.loop-k-test.false in
    let end' : c.loop-k.k ≡ length c.args.ids.now = omega arith in
    subst (Touches (g.L.Logic.rule c.args.rule.now) c.args.netlist.now c.args.tables.now.places.items c.args.ids.now c.args.values.now.items c.loop-k.values.items
    c.args.agenda.now c.loop-k.agenda c.args.trail.now.items c.loop-k.trail.items) end' c.loop-k.invariant.0
