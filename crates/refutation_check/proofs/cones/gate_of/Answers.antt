use Rattle.std.proofs.Common.{ap, sym, ◌∙◌}
use Rattle.statement.specs.Netlists.{is_flip_flop}
use Rattle.refutation_check.proofs.MarkLemmas.{defined_place, pin_signal, not_gate, gate_at}
use Rattle.refutation_check.proofs.cones.gate_of.Goals as goal

pub definition-requires-clause-defined : goal.definition-requires-clause-defined
definition-requires-clause-defined c =
    let d = c.requires.defined c.in-Pin.z c.in-Pin.field-1 c.in-Pin.is in
    (defined_place c.args.netlist.now c.requires.sound d.0 c.in-Pin.z d.1 d.2).0

pub definition-requires-clause-within : goal.definition-requires-clause-within
definition-requires-clause-within c =
    let d = c.requires.defined c.in-Pin.z c.in-Pin.field-1 c.in-Pin.is in
    (defined_place c.args.netlist.now c.requires.sound d.0 c.in-Pin.z d.1 d.2).1

pub returns-then-is_flip_flop : goal.returns-then-is_flip_flop
returns-then-is_flip_flop c z k is gate =
    not_gate c.args.netlist.now c.requires.sound c.definition.result.now c.in-Pin.z z c.definition.ensures.member c.definition.ensures.same
    (ap is_flip_flop (sym c.kind.ensures) ∙ (sym c.is_flip_flop.ensures ∙ c.if-is_flip_flop.true)) (pin_signal z k c.in-Pin.z c.in-Pin.field-1 (sym is ∙ c.in-Pin.is)) gate

pub returns : goal.returns
returns c = (
  gate_at c.args.netlist.now c.definition.result.now c.in-Pin.z c.definition.ensures.member c.definition.ensures.same
      (ap is_flip_flop (sym c.kind.ensures) ∙ (sym c.is_flip_flop.ensures ∙ c.if-is_flip_flop.false)),
  (c.in-Pin.field-1, c.in-Pin.is),
)
