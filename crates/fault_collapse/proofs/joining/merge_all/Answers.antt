use Rattle.std.proofs.Common.{◌≡◌, ◌*◌, ap, length, subst, arith}
use Rattle.fault_universe.specs.Universe.{all_lines}
use Rattle.statement.specs.Faults.{universe_of}
use Rattle.fault_universe.proofs.FaultLists.{length-faults}
use Rattle.fault_collapse.specs.inner.Merging.{AreMerged}
use Rattle.fault_collapse.proofs.joining.merge_all.Goals as goal

pub merge_line-requires-clause-within : goal.merge_line-requires-clause-within
merge_line-requires-clause-within c =
    let h = length-faults (all_lines c.args.netlist.now) in
    let e = ap length c.requires.universe in
    let l = c.len-lines.ensures in
    let t = c.loop-line-test.true in
    omega arith

pub returns : goal.returns
returns c =
    let n = c.args.netlist.now in
    let h = length-faults (all_lines n) in
    let e = ap length c.requires.universe in
    let l = c.len-lines.ensures in
    let t = c.loop-line-test.false in
    let last = c.loop-line.auto.line-end in
    let end : 2 * c.loop-line.line ≡ length (universe_of n) = omega arith in
    subst (AreMerged n c.loop-line.parents) end c.loop-line.invariant
