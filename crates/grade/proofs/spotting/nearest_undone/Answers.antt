use Rattle.std.proofs.Common.{◌∙◌, List, ℕ, ap, subst, sym, length}
use Rattle.events.specs.declared.trails.Change.{Change}
use Rattle.word_sim.specs.inner.Differences.{IsFirstShown}
use Rattle.grade.specs.inner.Keys.{most_key}
use Rattle.grade.proofs.spotting.nearest_undone.Goals as goal

pub nearest-key-requires-clause-size : goal.nearest-key-requires-clause-size
nearest-key-requires-clause-size c =
    ap length c.deref.ensures.value ∙ (c.requires.size ∙ sym (ap length c.values.ensures.values ∙ c.values.ensures.standing.size))

pub returns-clause-first : goal.returns-clause-first
returns-clause-first c =
    let key = c.nearest-key.result in
    let now = c.args.events.now in
    subst (λ (ks : List ℕ). IsFirstShown ks most_key now.values c.args.j now.trail key) c.deref.ensures.value
    (subst (λ (vs : List ℕ). IsFirstShown c.deref.result.now most_key vs c.args.j now.trail key) c.values.ensures.values
    (subst (λ (cs : List (Change ℕ)). IsFirstShown c.deref.result.now most_key c.values.result.now c.args.j cs key) c.trail.ensures.trail c.nearest-key.ensures))

pub returns-clause-size : goal.returns-clause-size
returns-clause-size c = c.values.ensures.standing.size
