use Rattle.std.proofs.Common.{◌≡◌, ◌<◌, List, length, Some, subst, ap, arith}
use Rattle.std.specs.List.{slice_get}
use Rattle.statement.specs.declared.lines.Fault.{Fault}
use Rattle.statement.specs.Faults.{universe_of}
use Rattle.fault_universe.proofs.Elements.{contains_at}
use Rattle.transition_tests.proofs.LineLemmas.{lines_all, lines_more}
use Rattle.transition_tests.proofs.lines.lines_of.Goals as goal

pub add_line-requires-clause-line : goal.add_line-requires-clause-line
add_line-requires-clause-line c =
    let n = c.args.netlist.now in
    let at = subst (λ (fs : List Fault). slice_get fs c.loop-i.i ≡ Some c.fault-fault.result) c.requires.universe c.fault-fault.ensures in
    c.faults_have_lines.ensures n c.fault-fault.result c.sound.ensures (contains_at (universe_of n) c.loop-i.i c.fault-fault.result at)

pub loop-i-preserved : goal.loop-i-preserved
loop-i-preserved c =
    let n = c.args.netlist.now in
    let i = c.loop-i.i in
    let verdicts = c.args.verdicts.now in
    let v = c.index-verdicts-i.result in
    let at = subst (λ (fs : List Fault). slice_get fs i ≡ Some c.fault-fault.result) c.requires.universe c.fault-fault.ensures in
    let lt : i < length verdicts = omega (arith, c.loop-i-test.true, c.len-i-end.ensures, ap length c.requires.universe, c.requires.size) in
    lines_more n c.args.chains.now (universe_of n) verdicts i c.fault-fault.result v c.loop-i.lines c.in_ok-lines.lines at lt
    c.index-verdicts-i.is c.in_ok-lines.ensures c.loop-i.invariant

pub returns : goal.returns
returns c =
    let n = c.args.netlist.now in
    lines_all n c.args.chains.now (universe_of n) c.args.verdicts.now c.loop-i.i c.loop-i.lines
    (omega (arith, c.loop-i-test.false, c.len-i-end.ensures, ap length c.requires.universe)) c.loop-i.invariant
