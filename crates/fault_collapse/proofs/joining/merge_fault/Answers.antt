use Rattle.std.proofs.Common.{◌+◌, ◌*◌, arith}
use Rattle.fault_universe.proofs.Elements.{slice_get_below}
use Rattle.fault_universe.specs.Universe.{all_lines}
use Rattle.statement.specs.Faults.{universe_of}
use Rattle.fault_collapse.specs.inner.Merging.{stem_fault}
use Rattle.fault_collapse.proofs.JoinedFaults.{joins, joins_no_other, none_made}
use Rattle.fault_collapse.proofs.Stems.{stem_fault_at}
use Rattle.fault_collapse.proofs.Merged.{not_joined, now_joined}
use Rattle.fault_collapse.proofs.joining.merge_fault.Goals as goal

pub merge-requires-clause-one_within : goal.merge-requires-clause-one_within
merge-requires-clause-one_within c =
    let l = slice_get_below (universe_of c.args.netlist.now) c.args.i c.args.fault.now c.requires.member in
    omega arith

pub merge-requires-clause-other_within : goal.merge-requires-clause-other_within
merge-requires-clause-other_within c =
    let n = c.args.netlist.now in
    let r = c.requires.reader in
    let fault = stem_fault_at (all_lines n) c.args.driver.stem r.0.id c.from.result c.in-Some.value r.2.stem c.from.ensures in
    let l = slice_get_below (universe_of n) _ _ fault in
    omega arith

pub returns-in-Some : goal.returns-in-Some
returns-in-Some c =
    let n = c.args.netlist.now in
    let r = c.requires.reader in
    let fault = stem_fault_at (all_lines n) c.args.driver.stem r.0.id c.from.result c.in-Some.value r.2.stem c.from.ensures in
    now_joined n c.sound.ensures c.args.parents.now c.args.i c.args.fault.now c.requires.member c.requires.before
    (stem_fault r.0.id c.in-Some.value) (2 * c.args.driver.stem + c.from.result) fault
    (joins n c.sound.ensures c.args.fault.now r.0 c.args.driver r.1 r.2 c.output_value.result c.output_value.ensures c.in-Some.value c.in-Some.is)
    (joins_no_other n c.sound.ensures c.args.fault.now r.0 c.args.driver r.1 r.2 c.output_value.result c.output_value.ensures c.in-Some.value c.in-Some.is)
    c.merge.new.parents (omega arith) c.merge.ensures.forest (c.merge.ensures.merged c.requires.before.first c.requires.before.leads)

pub returns-in_default : goal.returns-in_default
returns-in_default c =
    let n = c.args.netlist.now in
    let r = c.requires.reader in
    not_joined n c.sound.ensures c.args.parents.now c.args.i c.args.fault.now c.requires.member c.requires.before
    (none_made n c.sound.ensures c.args.fault.now r.0 c.args.driver r.1 r.2 c.output_value.result c.output_value.ensures c.in_default.is)
