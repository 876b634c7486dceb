use Rattle.std.proofs.Common.{refl, ◌<◌, map, ap, ◌∙◌, length, arith}
use Rattle.std.specs.List.{All}
use Rattle.std.proofs.lemmas.List.{length-set}
use Rattle.statement.specs.declared.lines.Line.TheVariants.{Stem}
use Rattle.netlist.specs.Settled.{at}
use Rattle.statement.specs.Values.{on_pins}
use Rattle.netlist.proofs.Orders.{gate_below, gate_high}
use Rattle.netlist.proofs.Settling.{pins_within, evaluated}
use Rattle.lane_play.specs.inner.Lanes.{gate_lanes, lanes_rule, unknown}
use Rattle.lane_play.proofs.Stuckness.{made_any}
use Rattle.lane_play.proofs.evaluating.evaluate.Goals as goal

pub definition-definition-requires-clause-defined : goal.definition-definition-requires-clause-defined
definition-definition-requires-clause-defined c = gate_high c.args.netlist.now c.requires.sound.formed.numbered c.args.id c.requires.gate

pub definition-definition-requires-clause-within : goal.definition-definition-requires-clause-within
definition-definition-requires-clause-within c = gate_below c.args.netlist.now c.requires.sound.formed.numbered c.args.id c.requires.gate

pub made-made-requires-clause-below : goal.made-made-requires-clause-below
made-made-requires-clause-below c =
    let n = c.args.netlist.now in
    pins_within n c.requires.sound.formed.numbered c.requires.sound.closed c.definition-definition.result.now c.definition-definition.ensures.member
    c.pins.result.now (length c.deref.result.now) c.pins.ensures (ap length c.deref.ensures.value ∙ c.requires.size)

pub index_mut-requires : goal.index_mut-requires
index_mut-requires c =
    let b = gate_below c.args.netlist.now c.requires.sound.formed.numbered c.args.id c.requires.gate in
    let e = c.index.ensures in
    let v = c.args.values.now.ok.0 in
    let z = c.requires.size in
    omega arith

pub returns : goal.returns
returns c =
    let n = c.args.netlist.now in
    let rule = lanes_rule c.args.rule.now.faults.now in
    let ids = c.pins.result.now in
    let seen = c.deref.result.now in
    let definition = c.definition-definition.result.now in
    let below : All (λ x. x < length seen) ids =
    pins_within n c.requires.sound.formed.numbered c.requires.sound.closed definition c.definition-definition.ensures.member
    ids (length seen) c.pins.ensures (ap length c.deref.ensures.value ∙ c.requires.size) in
    record {
      size = length-set c.args.values.now.items c.index.result c.made-made.result;
      set = λ f d gate same.
          let read = on_pins rule c.args.id 0 (map (at seen d) ids) in
          evaluated n c.requires.sound.formed.numbered rule definition f c.args.values.now.items seen read read ids c.index.result c.args.id c.args.id
          (rule.gate definition read) c.made-made.result d
          c.definition-definition.ensures.member c.definition-definition.ensures.same gate same refl
          (made_any c.args.rule.now.faults.now c.args.id c.kind.result ids seen c.made-made.result unknown d below c.made-made.ensures
          ∙ ap (λ k. rule.line (Stem c.args.id) (gate_lanes k read)) c.kind.ensures) refl refl
          refl c.deref.ensures.value c.pins.ensures c.index.ensures;
    }
