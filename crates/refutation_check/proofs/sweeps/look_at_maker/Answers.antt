use Rattle.std.proofs.Common.{◌≡◌, length, ap, sym, ◌∙◌, arith}
use Rattle.statement.specs.Netlists.{is_flip_flop}
use Rattle.netlist.specs.Netlist.{IsGateAt}
use Rattle.refutation_check.proofs.LookSteps.{cell_maker, gate_there, looked_if, no_maker}
use Rattle.refutation_check.proofs.sweeps.look_at_maker.Goals as goal

pub returns-then-index-inputs-clause-so : goal.returns-then-index-inputs-clause-so
returns-then-index-inputs-clause-so c =
    let low = c.if-index-inputs.true in
    let i = c.index.ensures in
    let size = ap length c.inputs-inputs.ensures in
    no_maker c.args.netlist.now c.args.fault.now c.requires.sound c.args.sets.now c.args.id (omega arith)

pub returns-then-is_flip_flop-clause-so : goal.returns-then-is_flip_flop-clause-so
returns-then-is_flip_flop-clause-so c =
    cell_maker c.args.netlist.now c.args.fault.now c.requires.sound c.args.sets.now c.args.id c.definition.result.now c.definition.ensures.member c.definition.ensures.same
    (ap is_flip_flop (sym c.kind.ensures) ∙ (sym c.is_flip_flop.ensures ∙ c.if-is_flip_flop.true))

pub look-requires-clause-gate : goal.look-requires-clause-gate
look-requires-clause-gate c =
    gate_there c.args.netlist.now c.args.fault.now c.args.id c.definition.result.now c.definition.ensures.member c.definition.ensures.same
    (ap is_flip_flop (sym c.kind.ensures) ∙ (sym c.is_flip_flop.ensures ∙ c.if-is_flip_flop.false))

pub returns-clause-so : goal.returns-clause-so
returns-clause-so c =
    looked_if c.args.netlist.now c.args.fault.now c.look.result c.args.sets.now c.look.new.sets c.args.id (λ z. IsGateAt c.args.netlist.now z × (z ≡ c.args.id)) (λ y t. t.1) c.look.ensures.so
