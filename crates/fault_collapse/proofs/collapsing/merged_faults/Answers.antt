use Rattle.std.proofs.Common.{◌≡◌, ◌∙◌, ap, length, subst, sym, arith}
use Rattle.fault_universe.specs.Universe.{all_lines}
use Rattle.statement.specs.Faults.{universe_of}
use Rattle.fault_universe.proofs.FaultLists.{length-faults}
use Rattle.fault_collapse.specs.inner.Merging.{AreMerged}
use Rattle.fault_collapse.proofs.Equivalent.{unmerged}
use Rattle.fault_collapse.proofs.collapsing.merged_faults.Goals as goal

pub drivers-requires : goal.drivers-requires
drivers-requires c =
    let h = length-faults (all_lines c.args.netlist.now) in
    let e = c.len-count.ensures ∙ ap length c.requires.universe in
    omega arith

pub merge_all-requires-clause-before : goal.merge_all-requires-clause-before
merge_all-requires-clause-before c =
    let e : length c.args.faults.now ≡ length (universe_of c.args.netlist.now) = ap length c.requires.universe in
    let s = c.in_ok-parents.ensures.size in
    subst (λ p. AreMerged c.args.netlist.now p 0) (sym c.deref_mut.ensures.value)
    (unmerged c.args.netlist.now c.in_ok-parents.parents.items (omega arith) (λ k l. c.in_ok-parents.ensures.each k (omega arith)))
