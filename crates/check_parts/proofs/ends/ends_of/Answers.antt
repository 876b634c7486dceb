use Rattle.std.proofs.Common.{IfOk, get_or, subst, sym}
use Rattle.netlist.specs.Lines.{IsLineOf}
use Rattle.statement.specs.Netlists.{Netlist}
use Rattle.statement.specs.Patterns.{Holds}
use Rattle.evidence.specs.Evidence.{Shows}
use Rattle.check_parts.specs.Checkers.{AreShown, NamesSignals}
use Rattle.check_parts.proofs.EndLemmas.{found_so, named, none_found}
use Rattle.check_parts.proofs.ends.ends_of.Goals as goal

pub returns-in_default-clause-ends : goal.returns-in_default-clause-ends
returns-in_default-clause-ends c =
    let l = c.args.lookup.now in
    none_found (Shows c.args.fault.now l.core.now l.holds.now) l.evidence.now c.args.fault.now c.in_default.ensures

pub ends-requires-clause-line : goal.ends-requires-clause-line
ends-requires-clause-line c =
    subst (λ (n : Netlist). IsLineOf n c.args.fault.now.line) (sym c.requires.checkers.netlist)
    (c.faults_have_lines.ensures c.args.lookup.now.core.now c.args.fault.now c.requires.lookup.sound c.requires.member)

pub ends-requires-clause-named : goal.ends-requires-clause-named
ends-requires-clause-named c =
    let l = c.args.lookup.now in
    subst (λ (n : Netlist). NamesSignals n (get_or l.evidence.now c.in-Some.place c.index-evidence-place.result).1) (sym c.requires.checkers.netlist)
    (named l.core.now c.requires.lookup.sound l.evidence.now c.requires.lookup.evidence c.in-Some.place c.index-evidence-place.result c.in-Some.ensures.within)

pub returns-clause-ends : goal.returns-clause-ends
returns-clause-ends c =
    let l = c.args.lookup.now in
    let f = c.args.fault.now in
    let e = (get_or l.evidence.now c.in-Some.place c.index-evidence-place.result).1 in
    found_so l.evidence.now f c.in-Some.place c.index-evidence-place.result c.in-Some.ensures (Shows f l.core.now l.holds.now) c.ends.result
    (subst (λ (h : Holds). IfOk c.ends.result (AreShown (Shows f l.core.now h e) e)) c.requires.checkers.holds
    (subst (λ (n : Netlist). IfOk c.ends.result (AreShown (Shows f n c.args.checkers.now.holds e) e)) c.requires.checkers.netlist c.ends.ensures.ends))
