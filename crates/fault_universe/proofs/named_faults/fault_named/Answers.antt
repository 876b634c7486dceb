use Rattle.std.proofs.Common.{◌∙◌, ◌++◌, ap, sym}
use Rattle.std.proofs.lemmas.Bool.{both_ways}
use Rattle.statement.specs.Faults.{value_text}
use Rattle.fault_universe.proofs.LineTexts.{no_fault, no_member}
use Rattle.fault_universe.proofs.Members.{fault_is_member}
use Rattle.fault_universe.proofs.named_faults.fault_named.Goals as goal

pub returns-in_default-line_named : goal.returns-in_default-line_named
returns-in_default-line_named g c =
    no_fault (g.N.SignalNames.named c.args.names.now) c.sound.ensures c.args.bytes.now c.in-Some.parts.0.now c.in-Some.parts.1 c.in-Some.ensures c.in_default-line_named.ensures

pub returns-then-has_named_line : goal.returns-then-has_named_line
returns-then-has_named_line g c = (
  fault_is_member (g.N.SignalNames.named c.args.names.now) c.in-Some-line_named.line c.in-Some.parts.1 (c.has_named_line.ensures.0 c.if-has_named_line.true),
  sym (c.in-Some.ensures ∙ ap (λ ys. ys ++ value_text c.in-Some.parts.1) c.in-Some-line_named.ensures.1),
)

pub returns-else-has_named_line : goal.returns-else-has_named_line
returns-else-has_named_line g c =
    no_member (g.N.SignalNames.named c.args.names.now) c.sound.ensures c.args.bytes.now c.in-Some.parts.0.now c.in-Some.parts.1 c.in-Some.ensures
    c.in-Some-line_named.line c.in-Some-line_named.ensures.0 c.in-Some-line_named.ensures.1
    (λ m. both_ways c.has_named_line.result c.if-has_named_line.false (c.has_named_line.ensures.1 m))
