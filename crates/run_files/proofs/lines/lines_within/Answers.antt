use Rattle.std.proofs.Common.{◌≡◌, ◌<◌, List, length, get_or, false, Some, subst, ◌∙◌, ap, arith}
use Rattle.std.specs.List.{slice_get}
use Rattle.std.proofs.lemmas.List.Elements.{All-get_or}
use Rattle.statement.specs.declared.lines.Fault.{Fault}
use Rattle.statement.specs.Faults.{universe_of}
use Rattle.fault_universe.proofs.Elements.{contains_at}
use Rattle.run_files.specs.inner.Outcomes.{verdict_said}
use Rattle.run_files.proofs.LineLemmas.{lines_more}
use Rattle.run_files.proofs.lines.lines_within.Goals as goal

pub add_line-requires-clause-line : goal.add_line-requires-clause-line
add_line-requires-clause-line c =
    let n = c.args.case.now.netlist.now in
    let at = subst (λ (fs : List Fault). slice_get fs c.loop-i.i ≡ Some c.fault.result) c.requires.case.subject.faults c.fault.ensures in
    c.faults_have_lines.ensures n c.fault.result c.sound.ensures (contains_at (universe_of n) c.loop-i.i c.fault.result at)

pub loop-i-preserved : goal.loop-i-preserved
loop-i-preserved c =
    let n = c.args.case.now.netlist.now in
    let i = c.loop-i.i in
    let numbers = c.args.case.now.subject.now.classes.numbers in
    let verdicts = c.args.verdicts.now in
    let v = c.index-verdicts-class_of.result in
    let at = subst (λ (fs : List Fault). slice_get fs i ≡ Some c.fault.result) c.requires.case.subject.faults c.fault.ensures in
    let lt : i < length numbers = omega (arith, c.loop-i-test.true, c.len-i-end.ensures, ap length c.requires.case.subject.faults, c.requires.case.subject.classes.size) in
    let within : get_or numbers i 0 < length verdicts = All-get_or (λ class. class < length verdicts) numbers i 0 lt c.requires.within in
    lines_more n c.args.case.now.chains.now numbers c.args.case.now.asked.now verdicts i c.fault.result v c.loop-i.lines c.in_ok-lines.lines at within
    (c.index-verdicts-class_of.is ∙ ap (λ k. get_or verdicts k v) c.class_of.ensures)
    (c.in_ok-lines.ensures c.args.case.now.chains.now (verdict_said (get_or c.args.case.now.asked.now i false) v) c.said_of-said.ensures.outcome) c.loop-i.invariant
