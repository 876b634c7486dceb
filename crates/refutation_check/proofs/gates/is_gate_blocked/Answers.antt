use Rattle.std.proofs.Common.{length, refl, ap, sym, ◌∙◌, arith}
use Rattle.statement.specs.Netlists.{is_flip_flop}
use Rattle.netlist.proofs.Settling.{pins_within}
use Rattle.refutation_check.proofs.GateLemmas.{input_unblocked, beyond_unblocked, cell_unblocked, gate_blocked}
use Rattle.refutation_check.proofs.gates.is_gate_blocked.Goals as goal
use Rattle.refutation_check.proofs.gates.is_gate_blocked.Goals.{then-index-inputs-via-then-index-inputs, then-index-inputs-via-else-index-inputs+then-index-told}

pub returns-then-index-inputs : goal.returns-then-index-inputs
returns-then-index-inputs c =
    let n = c.args.netlist.now in
    let size = ap length c.inputs-inputs.ensures in
    elim c.then-index-inputs.branch [
      | then-index-inputs-via-then-index-inputs w ↦
          let low = w.if-index-inputs.true in
          let i = c.index.ensures in
          input_unblocked n c.requires.sound c.args.fault.now c.args.told.now c.args.id (omega arith)
      | then-index-inputs-via-else-index-inputs+then-index-told w ↦
          let high = w.if-index-told.true in
          let i = w.index-else-index-inputs.ensures in
          let s = c.requires.size in
          beyond_unblocked n c.requires.sound c.args.fault.now c.args.told.now c.args.id (omega arith)
    ]

pub returns-then-is_flip_flop : goal.returns-then-is_flip_flop
returns-then-is_flip_flop c =
    cell_unblocked c.args.netlist.now c.requires.sound c.args.fault.now c.args.told.now c.args.id c.definition-gate.result.now c.definition-gate.ensures.member c.definition-gate.ensures.same
    (ap is_flip_flop (sym c.kind.ensures) ∙ (sym c.is_flip_flop.ensures ∙ c.if-is_flip_flop.true))

pub made-requires-clause-below : goal.made-requires-clause-below
made-requires-clause-below c =
    let n = c.args.netlist.now in
    let d = c.definition-gate.result.now in
    pins_within n c.requires.sound.formed.numbered c.requires.sound.closed d c.definition-gate.ensures.member d.pins (length c.args.told.now) refl c.requires.size

pub returns : goal.returns
returns c =
    gate_blocked c.args.netlist.now c.requires.sound c.args.fault.now c.args.told.now c.args.id c.definition-gate.result.now c.definition-gate.ensures.member c.definition-gate.ensures.same
    (ap is_flip_flop (sym c.kind.ensures) ∙ (sym c.is_flip_flop.ensures ∙ c.if-is_flip_flop.false)) c.is_apart.result c.told_at-own.result c.made.result
    c.told_at-own.ensures c.made.ensures c.is_apart.ensures
