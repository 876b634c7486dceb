use Rattle.std.proofs.Common.{◌≡◌, ◌∙◌, ap, subst, true, set, get_or, length, arith}
use Rattle.statement.specs.declared.lines.Line.TheVariants.{Stem}
use Rattle.netlist.proofs.Orders.{place_bounded}
use Rattle.events.specs.inner.Running.{PutsSource}
use Rattle.events.proofs.Running.{gate_marked, source_takes}
use Rattle.events.proofs.resettling.touch.Goals as goal

pub returns-then-place-len-clause-puts : goal.returns-then-place-len-clause-puts
returns-then-place-len-clause-puts g c =
    let rule = g.L.Logic.rule c.args.rule.now in
    let t = c.args.tables.now in
    let low = c.if-place-len.true in
    let here = c.place-place.ensures in
    let count = c.len.ensures in
    let size = t.order.ok.0 in
    gate_marked rule c.args.netlist.now c.sound.ensures t.order.items t.places.items c.requires.tables.placed c.args.values.now.items c.args.agenda.now c.insert.new.self
    c.args.trail.now.items c.args.id (rule.line (Stem c.args.id) c.args.driven) c.requires.marks (omega arith) c.requires.within
    (c.insert.ensures ∙ ap (λ p. set c.args.agenda.now p true) here)

pub returns-clause-puts : goal.returns-clause-puts
returns-clause-puts g c =
    let rule = g.L.Logic.rule c.args.rule.now in
    let n = c.args.netlist.now in
    let t = c.args.tables.now in
    let high = c.if-place-len.false in
    let here = c.place-place.ensures in
    let count = c.len.ensures in
    let size = t.order.ok.0 in
    let most = place_bounded n c.sound.ensures.formed.numbered t.order.items c.requires.tables.ordered t.places.items c.requires.tables.placed c.args.id c.requires.within in
    let behind : get_or t.places.items c.args.id 0 ≡ length t.order.items = omega arith in
    subst (λ v. PutsSource rule n t.places.items c.args.id v c.args.values.now.items c.take_value.new.values.items c.args.agenda.now c.take_value.new.agenda c.args.trail.now.items c.take_value.new.trail.items)
    c.line-value.ensures
    (source_takes rule n c.sound.ensures t.order.items t.places.items c.requires.tables.ordered c.requires.tables.placed
    c.args.values.now.items c.take_value.new.values.items c.args.agenda.now c.take_value.new.agenda c.args.trail.now.items c.take_value.new.trail.items c.args.id c.line-value.result
    c.requires.within c.requires.size c.requires.marks behind c.take_value.ensures.takes)
