use Rattle.std.proofs.Common.{map, length, refl, ap, sym, ◌∙◌, arith}
use Rattle.netlist.proofs.Settling.{pins_within}
use Rattle.refutation.specs.Refutations.{Told, told_of}
use Rattle.refutation_check.specs.inner.Images.{made_sets}
use Rattle.refutation_check.proofs.LookSteps.{gate_member, gate_place, look_own, look_pins}
use Rattle.refutation_check.proofs.SweepLemmas.{nothing_made}
use Rattle.refutation_check.proofs.TrailLemmas.{grows_then}
use Rattle.refutation_check.proofs.sweeps.look.Goals as goal

pub definition-definition-requires-clause-defined : goal.definition-definition-requires-clause-defined
definition-definition-requires-clause-defined c = (gate_place c.args.netlist.now c.requires.sound c.args.gate c.requires.gate).0

pub definition-definition-requires-clause-within : goal.definition-definition-requires-clause-within
definition-definition-requires-clause-within c = (gate_place c.args.netlist.now c.requires.sound c.args.gate c.requires.gate).1

pub made-made-requires-clause-below : goal.made-made-requires-clause-below
made-made-requires-clause-below c =
    let n = c.args.netlist.now in
    let d = c.definition-definition.result.now in
    pins_within n c.requires.sound.formed.numbered c.requires.sound.closed d c.definition-definition.ensures.member d.pins (length c.told.result.now) refl (ap length c.told.ensures ∙ c.requires.size)

pub returns-then-not-has_some-clause-so : goal.returns-then-not-has_some-clause-so
returns-then-not-has_some-clause-so c =
    let n = c.args.netlist.now in
    let f = c.args.fault.now in
    let d = c.definition-definition.result.now in
    nothing_made n f c.requires.sound c.args.sets.now.told d
    (gate_member n c.requires.sound c.args.gate d c.definition-definition.ensures.member c.definition-definition.ensures.same c.requires.gate) c.made-made.result
    (c.made-made.ensures ∙ ap (λ (t : Told). made_sets f d (map (told_of t) d.pins)) c.told.ensures) (sym c.has_some.ensures ∙ c.if-not-has_some.true)

pub told_at-own-requires : goal.told_at-own-requires
told_at-own-requires c =
    let low = (gate_place c.args.netlist.now c.requires.sound c.args.gate c.requires.gate).1 in
    let same = ap length c.told-2.ensures in
    let size = c.requires.size in
    omega arith

pub restrict-requires : goal.restrict-requires
restrict-requires c =
    let low = (gate_place c.args.netlist.now c.requires.sound c.args.gate c.requires.gate).1 in
    let size = c.requires.size in
    omega arith

pub returns-then-is_within-clause-so : goal.returns-then-is_within-clause-so
returns-then-is_within-clause-so c =
    let n = c.args.netlist.now in
    let f = c.args.fault.now in
    let d = c.definition-definition.result.now in
    let gate = c.args.gate in
    look_own n f c.requires.sound c.args.sets.now d (gate_member n c.requires.sound gate d c.definition-definition.ensures.member c.definition-definition.ensures.same c.requires.gate) gate
    c.definition-definition.ensures.same c.made-made.result (c.made-made.ensures ∙ ap (λ (t : Told). made_sets f d (map (told_of t) d.pins)) c.told.ensures)
    (sym c.has_some.ensures ∙ c.if-not-has_some.false) c.restrict.new.self c.in_ok-restrict.ensures.so c.told_at-own.result
    (c.told_at-own.ensures ∙ ap (λ (t : Told). told_of t gate) c.told-2.ensures) (c.is_within.ensures.0 c.if-is_within.true)

pub look_at_pins-requires-clause-pins : goal.look_at_pins-requires-clause-pins
look_at_pins-requires-clause-pins c =
    let d = c.definition-definition.result.now in
    let same = c.definition-definition.ensures.same in
    (d, gate_member c.args.netlist.now c.requires.sound c.args.gate d c.definition-definition.ensures.member same c.requires.gate, same, c.pins.ensures)

pub returns-in_err-look_at_pins-clause-grows : goal.returns-in_err-look_at_pins-clause-grows
returns-in_err-look_at_pins-clause-grows c =
    grows_then c.args.sets.now c.restrict.new.self c.look_at_pins.new.sets c.in_ok-restrict.ensures.grows c.in_err-look_at_pins.ensures.grows

pub returns-clause-grows : goal.returns-clause-grows
returns-clause-grows c = grows_then c.args.sets.now c.restrict.new.self c.look_at_pins.new.sets c.in_ok-restrict.ensures.grows c.in_ok-look_at_pins.ensures.grows

pub returns-clause-so : goal.returns-clause-so
returns-clause-so c =
    let n = c.args.netlist.now in
    let f = c.args.fault.now in
    let d = c.definition-definition.result.now in
    let gate = c.args.gate in
    look_pins n f c.requires.sound c.args.sets.now d (gate_member n c.requires.sound gate d c.definition-definition.ensures.member c.definition-definition.ensures.same c.requires.gate) gate
    c.definition-definition.ensures.same c.made-made.result (c.made-made.ensures ∙ ap (λ (t : Told). made_sets f d (map (told_of t) d.pins)) c.told.ensures)
    (sym c.has_some.ensures ∙ c.if-not-has_some.false) c.restrict.new.self c.in_ok-restrict.ensures.so c.look_at_pins.new.sets c.pins.result.now c.pins.ensures c.in_ok-restrict.ensures.grows
    c.in_ok-look_at_pins.ensures.grows c.in_ok-look_at_pins.ensures.so
