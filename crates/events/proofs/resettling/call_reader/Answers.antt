use Rattle.std.proofs.Common.{◌≤◌, ◌<◌, ◌∷◌, [], length, set, get_or, refl, sym, subst, arith}
use Rattle.statement.specs.declared.lines.Line.{Line}
use Rattle.netlist.specs.Lines.{IsPinBelow}
use Rattle.statement.specs.Netlists.{signals}
use Rattle.netlist.proofs.Settling.{pins_within}
use Rattle.events.specs.inner.Running.{CallsTurned}
use Rattle.events.proofs.Calling.{after_inputs, cell_pin, hidden_pin}
use Rattle.events.proofs.resettling.call_reader.Goals as goal

pub returns-then-place-len : goal.returns-then-place-len
returns-then-place-len g c =
    let n = c.args.netlist.now in
    let t = c.args.tables.now in
    let rule = g.L.Logic.rule c.args.rule.now in
    let old = c.args.values.now in
    let new = set old c.args.id c.args.value in
    let marks = c.args.agenda.now in
    let past = c.if-place-len.true in
    let here = c.place-place.ensures in
    let count = c.len.ensures in
    let high : length t.order.items ≤ get_or t.places.items c.in-Pin.reader 0 = omega arith in
    subst (λ (l : Line). CallsTurned rule n (l ∷ []) t.places.items old new marks marks) (sym c.in-Pin.is)
    (cell_pin rule n t.places.items old new c.sound.ensures.formed.numbered t.order.items c.requires.tables.ordered c.requires.tables.placed c.in-Pin.reader c.in-Pin.pin marks high)

pub definition-gate-requires-clause-defined : goal.definition-gate-requires-clause-defined
definition-gate-requires-clause-defined g c =
    let n = c.args.netlist.now in
    let t = c.args.tables.now in
    let numbered = c.sound.ensures.formed.numbered in
    let here = c.place-place.ensures in
    let count = c.len.ensures in
    let low = c.if-place-len.false in
    let within : c.in-Pin.reader < length (signals n) = subst (IsPinBelow (length (signals n))) c.in-Pin.is c.requires.line in
    let at_place : get_or t.places.items c.in-Pin.reader 0 < length t.order.items = omega arith in
    after_inputs (g.L.Logic.rule c.args.rule.now) n t.places.items c.args.values.now c.args.values.now numbered t.order.items c.requires.tables.ordered c.requires.tables.placed
    c.in-Pin.reader c.in-Pin.pin c.args.agenda.now within at_place

pub is_hidden-requires-clause-below : goal.is_hidden-requires-clause-below
is_hidden-requires-clause-below g c =
    pins_within c.args.netlist.now c.sound.ensures.formed.numbered c.sound.ensures.closed c.definition-gate.result.now c.definition-gate.ensures.member
    c.definition-gate.result.now.pins (length c.args.values.now) refl c.requires.size

pub returns-then-is_hidden : goal.returns-then-is_hidden
returns-then-is_hidden g c =
    let n = c.args.netlist.now in
    let t = c.args.tables.now in
    let rule = g.L.Logic.rule c.args.rule.now in
    let old = c.args.values.now in
    let new = set old c.args.id c.args.value in
    let marks = c.args.agenda.now in
    subst (λ (l : Line). CallsTurned rule n (l ∷ []) t.places.items old new marks marks) (sym c.in-Pin.is)
    (hidden_pin rule n t.places.items old new c.sound.ensures.formed.numbered t.order.items c.requires.tables.ordered c.requires.tables.placed c.in-Pin.reader c.in-Pin.pin marks
    c.definition-gate.result.now c.definition-gate.ensures.member c.definition-gate.ensures.same (c.is_hidden.ensures c.if-is_hidden.true))
