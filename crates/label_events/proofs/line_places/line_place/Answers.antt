use Rattle.std.proofs.Common.{◌≡◌, true, false, sym, ◌∙◌, ap, subst}
use Rattle.std.specs.List.{Contains}
use Rattle.netlist.specs.Conditions.{IsSound}
use Rattle.statement.specs.Netlists.{Netlist, is_flip_flop}
use Rattle.label_events.proofs.Places.{pin_defined, pin_inner, pin_read}
use Rattle.label_events.proofs.line_places.line_place.Goals as goal

pub definition-definition-requires-clause-defined : goal.definition-definition-requires-clause-defined
definition-definition-requires-clause-defined c =
    (pin_defined c.args.core.now (subst IsSound c.netlist-netlist.ensures c.sound.ensures) c.in-Pin.z c.in-Pin.field-1 c.args.line.now c.in-Pin.is c.requires
    c.netlist-netlist.result.now c.netlist-netlist.ensures).0

pub definition-definition-requires-clause-within : goal.definition-definition-requires-clause-within
definition-definition-requires-clause-within c =
    (pin_defined c.args.core.now (subst IsSound c.netlist-netlist.ensures c.sound.ensures) c.in-Pin.z c.in-Pin.field-1 c.args.line.now c.in-Pin.is c.requires
    c.netlist-netlist.result.now c.netlist-netlist.ensures).1

pub returns-then-is_flip_flop : goal.returns-then-is_flip_flop
returns-then-is_flip_flop c =
    let n = c.args.core.now in
    let d = c.definition-definition.result.now in
    let sound : IsSound n = subst IsSound c.netlist-netlist.ensures c.sound.ensures in
    let member : Contains n.definitions d = subst (λ (m : Netlist). Contains m.definitions d) c.netlist-netlist.ensures c.definition-definition.ensures.member in
    let cell : is_flip_flop d.kind ≡ true = ap is_flip_flop (sym c.kind.ensures) ∙ (sym c.is_flip_flop.ensures ∙ c.if-is_flip_flop.true) in
    pin_read n sound c.in-Pin.z c.in-Pin.field-1 c.args.line.now c.in-Pin.is c.requires d member c.definition-definition.ensures.same
    c.pins.result.now c.index-pins-0.result cell c.pins.ensures c.index-pins-0.is

pub returns-else-is_flip_flop : goal.returns-else-is_flip_flop
returns-else-is_flip_flop c =
    let n = c.args.core.now in
    let d = c.definition-definition.result.now in
    let sound : IsSound n = subst IsSound c.netlist-netlist.ensures c.sound.ensures in
    let member : Contains n.definitions d = subst (λ (m : Netlist). Contains m.definitions d) c.netlist-netlist.ensures c.definition-definition.ensures.member in
    let gate : is_flip_flop d.kind ≡ false = ap is_flip_flop (sym c.kind.ensures) ∙ (sym c.is_flip_flop.ensures ∙ c.if-is_flip_flop.false) in
    pin_inner n sound c.in-Pin.z c.in-Pin.field-1 c.args.line.now c.in-Pin.is c.requires d member c.definition-definition.ensures.same gate
