use Rattle.std.proofs.Common.{◌≡◌, ◌∙◌, ◌<◌, true, false, length, ap, not, sym, arith}
use Rattle.std.proofs.lemmas.Bool.{both_ways}
use Rattle.statement.specs.Netlists.{is_flip_flop}
use Rattle.netlist.specs.Netlist.{is_gate}
use Rattle.head_lines.proofs.GateTests.{no_gate_low, gate_decided}
use Rattle.head_lines.proofs.Chains.{pins_read, pins_all}
use Rattle.head_lines.proofs.room.gate_pins.Goals as goal

pub returns-then-index-inputs-clause-all : goal.returns-then-index-inputs-clause-all
returns-then-index-inputs-clause-all c x r =
    let n = c.args.netlist.now in
    let low : c.args.id < length n.inputs =
    (let a = c.index.ensures in let b = ap length c.inputs.ensures in let l = c.if-index-inputs.true in omega arith) in
    absurd (no_gate_low n c.sound.ensures.formed.numbered c.args.id low (r.0, r.1, r.2))

pub returns-then-is_flip_flop-clause-all : goal.returns-then-is_flip_flop-clause-all
returns-then-is_flip_flop-clause-all c x r =
    let n = c.args.netlist.now in
    let d = c.definition-definition.result.now in
    let w = gate_decided n c.sound.ensures.formed.numbered d c.args.id c.definition-definition.ensures.member c.definition-definition.ensures.same in
    let cell : is_gate d ≡ false = ap not (sym (c.is_flip_flop.ensures ∙ ap is_flip_flop c.kind.ensures) ∙ c.if-is_flip_flop.true) in
    absurd (both_ways (is_gate d) cell (w.1 (r.0, r.1, r.2)))

pub returns-clause-are : goal.returns-clause-are
returns-clause-are c =
    let n = c.args.netlist.now in
    let d = c.definition-definition.result.now in
    let gate : is_gate d ≡ true = ap not (sym (c.is_flip_flop.ensures ∙ ap is_flip_flop c.kind.ensures) ∙ c.if-is_flip_flop.false) in
    pins_read n d c.args.id c.definition-definition.ensures.member c.definition-definition.ensures.same gate c.pins.result.now c.pins.ensures

pub returns-clause-all : goal.returns-clause-all
returns-clause-all c =
    pins_all c.args.netlist.now c.sound.ensures c.definition-definition.result.now c.args.id c.definition-definition.ensures.member c.definition-definition.ensures.same
    c.pins.result.now c.pins.ensures
