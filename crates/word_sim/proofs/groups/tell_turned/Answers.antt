use Rattle.std.proofs.Common.{◌≡◌, ℕ, ◌<◌, List, length, sym, ◌∙◌, ap, subst, arith}
use Rattle.std.specs.List.{All}
use Rattle.events.specs.declared.trails.Change.{Change}
use Rattle.word_sim.proofs.ToldFaults.{shows_all}
use Rattle.word_sim.proofs.groups.tell_turned.Goals as goal

pub list_shown-requires-clause-within : goal.list_shown-requires-clause-within
list_shown-requires-clause-within c =
    subst (λ (vs : List ℕ). All (λ (d : Change ℕ). d.signal < length vs) c.trail.result.now) (sym c.values.ensures.values)
    (subst (λ (cs : List (Change ℕ)). All (λ (d : Change ℕ). d.signal < length c.args.events.now.values) cs) (sym c.trail.ensures.trail) c.trail.ensures.standing.within)

pub list_shown-requires-clause-size : goal.list_shown-requires-clause-size
list_shown-requires-clause-size c =
    ap (λ (xs : List ℕ). length xs) c.deref.ensures.value ∙ (c.requires.turned.pass.points.first_is.size ∙ (sym c.values.ensures.standing.size ∙ ap (λ (vs : List ℕ). length vs) (sym c.values.ensures.values)))

pub tell_chain-requires-clause-turned : goal.tell_chain-requires-clause-turned
tell_chain-requires-clause-turned c =
    let count : c.len-count.result ≡ length c.args.pass.now.points.now.seen.items = (let a = c.len-count.ensures in let b = c.args.pass.now.points.now.seen.ok.0 in omega arith) in
    shows_all c.args.events.now.netlist c.args.pass.now c.args.turned.now c.args.events.now.values c.values.result.now c.args.events.now.trail c.trail.result.now
    c.deref.result.now c.len-count.result c.deref-2.result.now c.requires.turned c.deref.ensures.value count c.values.ensures.values c.trail.ensures.trail (c.deref-2.ensures.value ∙ c.in-Ok.ensures)
