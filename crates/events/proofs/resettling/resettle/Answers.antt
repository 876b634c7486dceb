use Rattle.std.proofs.Common.{◌≡◌, ◌<◌, Bool, List, false, ap, sym, subst, ◌∙◌, length, refl, set, arith}
use Rattle.std.proofs.lemmas.List.{get_or_read}
use Rattle.statement.specs.Netlists.{signals}
use Rattle.netlist.proofs.Placed.{definition_below, gate_defined}
use Rattle.netlist.specs.Settled.{at}
use Rattle.events.specs.Agendas.{IsFirst, AreClear}
use Rattle.events.specs.Waiting.{given}
use Rattle.events.specs.inner.Running.{Takes}
use Rattle.events.proofs.Running.{begun, one_more, ended}
use Rattle.events.proofs.resettling.resettle.Goals as goal

pub loop-place-init : goal.loop-place-init
loop-place-init g c =
    let r = c.requires.room in
    (begun (g.L.Logic.rule c.args.rule.now) c.args.netlist.now c.args.tables.now.places.items c.args.values.now.items c.args.agenda.now c.args.trail.now.items, omega arith, refl)

pub made-value-requires-clause-gate : goal.made-value-requires-clause-gate
made-value-requires-clause-gate g c =
    let order = c.args.tables.now.order.items in
    let first : IsFirst c.loop-place.agenda c.in-Some.place = c.in-Some.ensures.least in
    let m = c.requires.marks in
    let s = c.loop-place.invariant.0.size in
    let i = first.within in
    let l : c.in-Some.place < length order = omega arith in
    let w = c.requires.tables.ordered.members c.in-Some.place 0 l in
    (w.0, w.1, w.2 ∙ sym (get_or_read order c.in-Some.place c.index-id.result.now l c.index-id.ensures 0))

pub take_value-requires-clause-within : goal.take_value-requires-clause-within
take_value-requires-clause-within g c =
    let n = c.args.netlist.now in
    let order = c.args.tables.now.order.items in
    let first : IsFirst c.loop-place.agenda c.in-Some.place = c.in-Some.ensures.least in
    let m = c.requires.marks in
    let s = c.loop-place.invariant.0.size in
    let i = first.within in
    let l : c.in-Some.place < length order = omega arith in
    let w = c.requires.tables.ordered.members c.in-Some.place 0 l in
    let numbered = c.sound.ensures.formed.numbered in
    subst (λ x. x < length (signals n)) (w.2 ∙ sym (get_or_read order c.in-Some.place c.index-id.result.now l c.index-id.ensures 0))
    (definition_below n numbered w.0 (gate_defined n numbered w.0 w.1))

pub loop-place-preserved : goal.loop-place-preserved
loop-place-preserved g c =
    let n = c.args.netlist.now in
    let order = c.args.tables.now.order.items in
    let places = c.args.tables.now.places.items in
    let first : IsFirst c.loop-place.agenda c.in-Some.place = c.in-Some.ensures.least in
    let taken : c.take_least.new.self ≡ set c.loop-place.agenda c.in-Some.place false = c.in-Some.ensures.taken in
    let m = c.requires.marks in
    let s = c.loop-place.invariant.0.size in
    let i = first.within in
    let l : c.in-Some.place < length order = omega arith in
    let here = get_or_read order c.in-Some.place c.index-id.result.now l c.index-id.ensures 0 in
    let later = c.loop-place.invariant.0.later c.in-Some.place first.here in
    let room = c.loop-place.invariant.1 in
    let pushed = c.take_value.ensures.pushed in
    let grown = c.take_value.ensures.room in
    let cap = c.loop-place.invariant.2 in (
      one_more (g.L.Logic.rule c.args.rule.now) n c.sound.ensures order places c.requires.tables.ordered c.requires.tables.placed
          c.args.values.now.items c.loop-place.values.items c.take_value.new.values.items c.args.agenda.now c.loop-place.agenda c.take_value.new.agenda
          c.args.trail.now.items c.loop-place.trail.items c.take_value.new.trail.items c.loop-place.below c.in-Some.place c.index-id.result.now c.made-value.result
          c.requires.size m c.loop-place.invariant.0 first here
          (λ f d gate same. c.made-value.ensures f d gate same ∙ ap (λ vs. given (g.L.Logic.rule c.args.rule.now) (at vs d) f) c.deref.ensures.value)
          (subst (λ (marks : List Bool). Takes (g.L.Logic.rule c.args.rule.now) n places c.index-id.result.now c.made-value.result c.loop-place.values.items c.take_value.new.values.items marks c.take_value.new.agenda
          c.loop-place.trail.items c.take_value.new.trail.items) taken c.take_value.ensures.takes),
      omega arith,
      omega arith,
    )

pub returns-clause-resettles : goal.returns-clause-resettles
returns-clause-resettles g c =
    let clear : AreClear c.loop-place.agenda = c.in_default.ensures.least in
    ended (g.L.Logic.rule c.args.rule.now) c.args.netlist.now c.args.tables.now.places.items c.args.values.now.items c.loop-place.values.items c.args.agenda.now c.loop-place.agenda
    c.args.trail.now.items c.loop-place.trail.items c.loop-place.below c.loop-place.invariant.0 clear
