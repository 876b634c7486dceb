use Rattle.std.proofs.Common.{◌≡◌, ◌+◌, ◌*◌, ◌∙◌, ap, length, subst, sym, arith}
use Rattle.std.specs.List.{slice_get}
use Rattle.fault_universe.specs.Universe.{all_lines}
use Rattle.fault_universe.proofs.FaultLists.{length-faults}
use Rattle.fault_collapse.specs.inner.Merging.{AreMerged, IsReadBy}
use Rattle.fault_collapse.proofs.JoinedFaults.{none_reads}
use Rattle.fault_collapse.proofs.Merged.{not_joined}
use Rattle.fault_collapse.proofs.Stems.{one_line}
use Rattle.fault_collapse.proofs.joining.merge_line.Goals as goal

pub overflow_mul-first : goal.overflow_mul-first
overflow_mul-first c =
    let h = length-faults (all_lines c.args.netlist.now) in
    omega (arith, h, c.requires.within, c.requires.few)

pub fault-at_zero-requires : goal.fault-at_zero-requires
fault-at_zero-requires c =
    let h = length-faults (all_lines c.args.netlist.now) in
    let e = ap length c.requires.universe in
    omega (arith, h, c.requires.within)

pub overflow_add-first : goal.overflow_add-first
overflow_add-first c =
    let h = length-faults (all_lines c.args.netlist.now) in
    omega (arith, h, c.requires.within, c.requires.few)

pub fault-at_one-requires : goal.fault-at_one-requires
fault-at_one-requires c =
    let h = length-faults (all_lines c.args.netlist.now) in
    let e = ap length c.requires.universe in
    omega (arith, h, c.requires.within)

pub reading_driver-requires-clause-line : goal.reading_driver-requires-clause-line
reading_driver-requires-clause-line c =
    (one_line (all_lines c.args.netlist.now) _ c.requires.universe c.args.line c.fault-at_zero.result c.fault-at_one.result c.requires.within c.fault-at_zero.ensures c.fault-at_one.ensures).0

pub merge_fault-requires-in-Some-clause-reader : goal.merge_fault-requires-in-Some-clause-reader
merge_fault-requires-in-Some-clause-reader c =
    let n = c.args.netlist.now in
    let same = (one_line (all_lines n) _ c.requires.universe c.args.line c.fault-at_zero.result c.fault-at_one.result c.requires.within c.fault-at_zero.ensures c.fault-at_one.ensures).1 in
    let r = c.in-Some.ensures in
    (r.0, subst (λ l. IsReadBy n l r.0) same r.1, r.2)

pub returns-in_default : goal.returns-in_default
returns-in_default c =
    let n = c.args.netlist.now in
    let same = (one_line (all_lines n) _ c.requires.universe c.args.line c.fault-at_zero.result c.fault-at_one.result c.requires.within c.fault-at_zero.ensures c.fault-at_one.ensures).1 in
    let zero = ap (λ fs. slice_get fs (2 * c.args.line)) (sym c.requires.universe) ∙ c.fault-at_zero.ensures in
    let one = ap (λ fs. slice_get fs (2 * c.args.line + 1)) (sym c.requires.universe) ∙ c.fault-at_one.ensures in
    let half = not_joined n c.sound.ensures c.args.parents.now (2 * c.args.line) c.fault-at_zero.result zero c.requires.before (none_reads n c.fault-at_zero.result c.in_default.ensures) in
    let whole = not_joined n c.sound.ensures c.args.parents.now (2 * c.args.line + 1) c.fault-at_one.result one half
    (none_reads n c.fault-at_one.result (λ d r. c.in_default.ensures d (subst (λ l. IsReadBy n l d) (sym same) r))) in
    let at : 2 * c.args.line + 1 + 1 ≡ 2 * c.args.line + 2 = omega arith in
    subst (AreMerged n c.args.parents.now) at whole
