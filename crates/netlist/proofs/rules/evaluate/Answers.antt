use Rattle.std.proofs.Common.{refl, List, ℕ, ap, ◌∙◌, length, arith}
use Rattle.std.proofs.lemmas.List.{length-set}
use Rattle.netlist.proofs.Orders.{gate_below, gate_high}
use Rattle.netlist.proofs.WellFormed.{few_pins_of}
use Rattle.netlist.proofs.Settling.{pins_within, evaluated}
use Rattle.netlist.proofs.rules.evaluate.Goals as goal

pub definition-definition-requires-clause-defined : goal.definition-definition-requires-clause-defined
definition-definition-requires-clause-defined g c = gate_high c.args.netlist.now c.requires.sound.formed.numbered c.args.id c.requires.gate

pub definition-definition-requires-clause-within : goal.definition-definition-requires-clause-within
definition-definition-requires-clause-within g c = gate_below c.args.netlist.now c.requires.sound.formed.numbered c.args.id c.requires.gate

pub read_pins-requires-clause-below : goal.read_pins-requires-clause-below
read_pins-requires-clause-below g c =
    let n = c.args.netlist.now in
    pins_within n c.requires.sound.formed.numbered c.requires.sound.closed c.definition-definition.result.now c.definition-definition.ensures.member
    c.pins.result.now (length c.deref.result.now) c.pins.ensures (ap length c.deref.ensures.value ∙ c.requires.size)

pub read_pins-requires-clause-few : goal.read_pins-requires-clause-few
read_pins-requires-clause-few g c =
    let few = few_pins_of c.args.netlist.now c.requires.sound.closed c.definition-definition.result.now c.definition-definition.ensures.member in
    let b = ap (λ (xs : List ℕ). length xs) c.pins.ensures in
    omega arith

pub index_mut-requires : goal.index_mut-requires
index_mut-requires g c =
    let b = gate_below c.args.netlist.now c.requires.sound.formed.numbered c.args.id c.requires.gate in
    let e = c.index.ensures in
    let v = c.args.values.now.ok.0 in
    let z = c.requires.size in
    omega arith

pub returns-clause-made : goal.returns-clause-made
returns-clause-made g c =
    let n = c.args.netlist.now in
    record {
      size = length-set c.args.values.now.items c.index.result c.line.result;
      set = λ f d gate same.
          evaluated n c.requires.sound.formed.numbered (g.L.Logic.rule c.args.logic.now) c.definition-definition.result.now f c.args.values.now.items c.deref.result.now
          c.deref-2.result.now c.read_pins.new.pins.items c.pins.result.now c.index.result c.args.id c.args.id c.gate-made.result c.line.result d
          c.definition-definition.ensures.member c.definition-definition.ensures.same gate same c.gate-made.ensures c.line.ensures refl c.deref-2.ensures.value
          (c.in_ok-read_pins.ensures.each d) c.deref.ensures.value c.pins.ensures c.index.ensures;
    }

pub gate-made-requires : goal.gate-made-requires
gate-made-requires g c =
    let few = few_pins_of c.args.netlist.now c.requires.sound.closed c.definition-definition.result.now c.definition-definition.ensures.member in
    let n = c.in_ok-read_pins.ensures.count in
    let a = ap length c.deref-2.ensures.value in
    let b = ap (λ (xs : List ℕ). length xs) c.pins.ensures in
    omega arith
