use Rattle.std.proofs.Common.{◌∙◌, ℕ, length, subst, sym, ap, arith, Option}
use Rattle.netlist.specs.Conditions.{IsSound}
use Rattle.statement.specs.Netlists.{Netlist, name_of}
use Rattle.command_steps.specs.inner.Found.{IsFound}
use Rattle.command_steps.proofs.HoldLemmas.{input_at, no_input, no_signal}
use Rattle.command_steps.proofs.holding.input_named.Goals as goal

pub returns-in_err-signal : goal.returns-in_err-signal
returns-in_err-signal c =
    let n = c.args.index.now in
    let sound = subst IsSound c.netlist.ensures c.sound.ensures in
    subst (λ (r : Option ℕ). IsFound n c.args.name.now r) (sym c.from_residual.ensures)
    (no_signal n sound c.args.name.now (λ x lt e. c.in_err-signal.ensures x lt (e ∙ sym c.as_bytes.ensures.value)))

pub returns-then-index-inputs : goal.returns-then-index-inputs
returns-then-index-inputs c =
    let n = c.args.index.now in
    let sound = subst IsSound c.netlist.ensures c.sound.ensures in
    let inputs = ap length c.inputs.ensures ∙ ap (λ (m : Netlist). length m.inputs) c.netlist-2.ensures in
    let same = c.index-then-index-inputs.ensures in
    input_at n sound c.index-then-index-inputs.result c.args.name.now (omega (arith, c.if-index-inputs.true, c.index.ensures, same, inputs))
    (ap (name_of n) same ∙ (c.in_ok-signal.ensures.1 ∙ c.as_bytes.ensures.value))

pub returns-else-index-inputs : goal.returns-else-index-inputs
returns-else-index-inputs c =
    let n = c.args.index.now in
    let sound = subst IsSound c.netlist.ensures c.sound.ensures in
    let inputs = ap length c.inputs.ensures ∙ ap (λ (m : Netlist). length m.inputs) c.netlist-2.ensures in
    no_input n sound c.in_ok-signal.signal c.args.name.now c.in_ok-signal.ensures.0 (omega (arith, c.if-index-inputs.false, c.index.ensures, inputs)) (c.in_ok-signal.ensures.1 ∙ c.as_bytes.ensures.value)
