use Rattle.std.proofs.Common.{IfOk, subst, sym}
use Rattle.netlist.specs.Conditions.{IsSound}
use Rattle.netlist.specs.Lines.{IsLineOf}
use Rattle.statement.specs.Netlists.{Netlist}
use Rattle.statement.specs.Patterns.{Holds}
use Rattle.evidence.specs.Evidence.{Shows}
use Rattle.check_parts.specs.Checkers.{AreShown, NamesSignals}
use Rattle.check_parts.proofs.NamedSignals.{names}
use Rattle.check_parts.proofs.ends.ends_on.Goals as goal

pub ends-ends-requires-clause-line : goal.ends-ends-requires-clause-line
ends-ends-requires-clause-line c =
    subst (λ (n : Netlist). IsLineOf n c.args.fault.now.line) (sym c.in_ok-checkers.ensures.0) c.requires.line

pub ends-ends-requires-clause-named : goal.ends-ends-requires-clause-named
ends-ends-requires-clause-named c =
    subst (λ (n : Netlist). NamesSignals n c.args.evidence.now) (sym c.in_ok-checkers.ensures.0)
    (names c.args.core.now (subst IsSound c.netlist.ensures c.sound.ensures) c.args.evidence.now c.requires.formed)

pub returns : goal.returns
returns c =
    let f = c.args.fault.now in
    let e = c.args.evidence.now in
    subst (λ (h : Holds). IfOk c.ends-ends.result (AreShown (Shows f c.args.core.now h e) e)) c.in_ok-checkers.ensures.1
    (subst (λ (n : Netlist). IfOk c.ends-ends.result (AreShown (Shows f n c.in_ok-checkers.checkers.holds e) e)) c.in_ok-checkers.ensures.0 c.ends-ends.ensures.ends)
