use Rattle.std.proofs.Common.{◌≡◌, ◌+◌, ◌<◌, ◌∷◌, ◌++◌, [], ℕ, List, take, length, get_or, sym, ◌∙◌, ap, subst, arith}
use Rattle.std.proofs.lemmas.List.{get_or_default, take_more}
use Rattle.netlist.specs.Settled.{at}
use Rattle.pair_sim.specs.inner.Levels.{blank}
use Rattle.pair_sim.specs.inner.Reach.{AreViewed}
use Rattle.pair_sim.proofs.reach.view_of.Goals as goal

pub loop-id-preserved : goal.loop-id-preserved
loop-id-preserved c =
    let r = c.args.reach.now in
    let first = r.points.first.items in
    let count = length r.points.seen.items in
    let values = c.args.values.now in
    let ids = r.signals.items in
    let k = c.loop-id.id-index in
    let x = c.id-item.result in
    let same : c.deref-id-items.result.now ≡ ids = c.deref-id-items.ensures.value in
    let inside : k < length ids = subst (λ (xs : List ℕ). k < length xs) same c.loop-id-test.true in
    let item : get_or ids k x ≡ x = sym (c.id-item.is ∙ ap (λ (xs : List ℕ). get_or xs k x) same) in
    let low : x < length values = subst (λ y. y < length values) item (c.requires.within k x inside) in
    let i : c.index-x.result ≡ x = c.index-x.ensures in
    let place : get_or first x 0 ≡ c.index.result.now =
    sym (c.index.ensures ∙ (get_or_default first c.index-x.result c.index.result.now 0 (let e = c.requires.size in omega arith) ∙ ap (λ y. get_or first y 0) i)) in
    let label = sym (get_or_default values c.index-x.result _ blank (omega arith) ∙ ap (at values blank) i) in
    subst (λ (xs : List ℕ). AreViewed first count values xs c.view_more-view.result.least c.view_more-view.result.differs)
    (sym (take_more ids k x inside ∙ ap (λ y. take k ids ++ y ∷ []) item))
    (c.view_more-view.ensures first count values (take k ids) x place label c.loop-id.invariant)
