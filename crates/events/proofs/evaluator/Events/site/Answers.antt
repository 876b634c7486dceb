use Rattle.std.proofs.Common.{◌<◌, sym, subst, length, arith}
use Rattle.netlist.specs.Conditions.{IsSound}
use Rattle.netlist.specs.Lines.{IsLineOf}
use Rattle.statement.specs.Netlists.{signals}
use Rattle.events.specs.Standing.{Standing}
use Rattle.events.specs.Stuck.{IsObservedOnly, IsSite}
use Rattle.events.proofs.Sites.{pin_within, pin_site, pin_observed}
use Rattle.events.proofs.evaluator.Events.site.Goals as goal

pub place-requires : goal.place-requires
place-requires g c =
    let n = c.self.inside.core.now in
    let sound : IsSound n = subst IsSound c.netlist.ensures c.sound.ensures in
    let line : IsLineOf n c.args.line.now = subst (λ (s : Standing g.row.V.Denot). IsLineOf s.netlist c.args.line.now) (sym c.self.view_is) c.requires in
    subst (λ m. c.in-Pin.z < m) (sym c.self.invariant.tables.placed.size) (pin_within n sound.formed.numbered c.args.line.now c.in-Pin.z c.in-Pin.field-1 c.in-Pin.is line)

pub returns-then-place-len-clause-site : goal.returns-then-place-len-clause-site
returns-then-place-len-clause-site g c =
    let n = c.self.inside.core.now in
    let t = c.self.inside.tables in
    let sound : IsSound n = subst IsSound c.netlist.ensures c.sound.ensures in
    let line : IsLineOf n c.args.line.now = subst (λ (s : Standing g.row.V.Denot). IsLineOf s.netlist c.args.line.now) (sym c.self.view_is) c.requires in
    let low = c.if-place-len.true in
    let here = c.place.ensures in
    let count = c.len.ensures in
    let size = t.order.ok.0 in
    subst (λ (s : Standing g.row.V.Denot). IsSite s.netlist c.args.line.now c.in-Pin.z) c.self.view_is
    (pin_site n sound.formed.numbered c.args.line.now c.in-Pin.z c.in-Pin.field-1 c.in-Pin.is line t.order.items t.places.items c.self.invariant.tables.ordered c.self.invariant.tables.placed (omega arith))

pub returns-then-place-len-clause-within : goal.returns-then-place-len-clause-within
returns-then-place-len-clause-within g c =
    let n = c.self.inside.core.now in
    let sound : IsSound n = subst IsSound c.netlist.ensures c.sound.ensures in
    let line : IsLineOf n c.args.line.now = subst (λ (s : Standing g.row.V.Denot). IsLineOf s.netlist c.args.line.now) (sym c.self.view_is) c.requires in
    subst (λ (s : Standing g.row.V.Denot). c.in-Pin.z < length (signals s.netlist)) c.self.view_is (pin_within n sound.formed.numbered c.args.line.now c.in-Pin.z c.in-Pin.field-1 c.in-Pin.is line)

pub returns-else-place-len-clause-site : goal.returns-else-place-len-clause-site
returns-else-place-len-clause-site g c =
    let n = c.self.inside.core.now in
    let t = c.self.inside.tables in
    let sound : IsSound n = subst IsSound c.netlist.ensures c.sound.ensures in
    let line : IsLineOf n c.args.line.now = subst (λ (s : Standing g.row.V.Denot). IsLineOf s.netlist c.args.line.now) (sym c.self.view_is) c.requires in
    let high = c.if-place-len.false in
    let here = c.place.ensures in
    let count = c.len.ensures in
    let size = t.order.ok.0 in
    subst (λ (s : Standing g.row.V.Denot). IsObservedOnly s.netlist c.args.line.now) c.self.view_is
    (pin_observed n sound.formed.numbered c.args.line.now c.in-Pin.z c.in-Pin.field-1 c.in-Pin.is line t.order.items t.places.items c.self.invariant.tables.ordered c.self.invariant.tables.placed (omega arith))
