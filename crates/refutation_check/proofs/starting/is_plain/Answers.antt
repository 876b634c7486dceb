use Rattle.std.proofs.Common.{length, ap, sym, ◌∙◌, arith}
use Rattle.std.proofs.lemmas.Bool.{eqb-false, not-true}
use Rattle.refutation_check.proofs.Touches.{any_within, plain_gate, plain_input}
use Rattle.refutation_check.proofs.starting.is_plain.Goals as goal

pub returns-then-index-inputs : goal.returns-then-index-inputs
returns-then-index-inputs c e =
    let h = sym c.held.ensures ∙ any_within c.any.result c.held.result c.any.ensures (c.is_within.ensures.0 c.if-not-is_within.false) in
    let size = ap length c.inputs-inputs.ensures in
    let low = c.if-index-inputs.true in
    let i = c.index.ensures in
    plain_input c.args.netlist.now c.requires.sound c.args.holds.now c.args.id h (omega arith)

pub returns : goal.returns
returns c e =
    let h = sym c.held.ensures ∙ any_within c.any.result c.held.result c.any.ensures (c.is_within.ensures.0 c.if-not-is_within.false) in
    plain_gate c.args.netlist.now c.requires.sound c.args.holds.now c.args.id c.definition.result.now c.pins.result.now h c.definition.ensures.member c.definition.ensures.same c.pins.ensures
    (eqb-false (length c.pins.result.now) 0 (sym c.is_empty.ensures ∙ not-true c.is_empty.result e))
