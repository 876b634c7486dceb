use Rattle.std.proofs.Common.{length, sym, ap, subst, ◌∙◌}
use Rattle.netlist.specs.Conditions.{IsSound}
use Rattle.diagnose.specs.inner.Ranks.{AreDivided}
use Rattle.diagnose.proofs.DesignLemmas.{all_in_order, has_names}
use Rattle.diagnose.proofs.Nearness.{one_for_each, other_for_each}
use Rattle.diagnose.proofs.nearing.all_ranked.Goals as goal

pub divide-requires : goal.divide-requires
divide-requires g c = has_names c.args.design.now c.args.vectors.now c.requires c.netlist-2.result.now c.netlist-2.ensures c.tester_names_differ.ensures

pub class_tallies-requires-clause-strobed : goal.class_tallies-requires-clause-strobed
class_tallies-requires-clause-strobed g c f has =
    let divided = subst (λ s. AreDivided s c.args.vectors.now c.args.failures.now c.in_ok-divided.divided.strobed c.in_ok-divided.divided.strangers) c.netlist-2.ensures c.in_ok-divided.ensures in
    (divided.strobed_are f has).1

pub sorted-requires-clause-count : goal.sorted-requires-clause-count
sorted-requires-clause-count g c =
    let d = c.requires.design in
    c.len.ensures ∙ (ap length d.are_faults ∙ sym d.are_classes.size)

pub sorted-requires-clause-one : goal.sorted-requires-clause-one
sorted-requires-clause-one g c =
    let d = c.args.design.now in
    one_for_each d.core.now d.scanned.now.sites c.args.vectors.now c.in_ok-divided.divided.strobed d.classes.now.representatives c.in_ok-tallies.tallies.one.items c.in_ok-tallies.tallies.other.items c.in_ok-tallies.ensures

pub sorted-requires-clause-other : goal.sorted-requires-clause-other
sorted-requires-clause-other g c =
    let d = c.args.design.now in
    other_for_each d.core.now d.scanned.now.sites c.args.vectors.now c.in_ok-divided.divided.strobed d.classes.now.representatives c.in_ok-tallies.tallies.one.items c.in_ok-tallies.tallies.other.items c.in_ok-tallies.ensures

pub sorted-requires-clause-within : goal.sorted-requires-clause-within
sorted-requires-clause-within g c = c.requires.design.are_classes.within

pub returns : goal.returns
returns g c =
    all_in_order c.args.design.now c.args.vectors.now c.requires c.netlist-2.result.now c.netlist-2.ensures c.equivalent_runs.ensures c.faults_have_lines.ensures c.tester_names_differ.ensures
    (subst IsSound (c.netlist.ensures ∙ sym c.netlist-2.ensures) c.sound.ensures) c.args.failures.now c.in_ok-divided.divided.strobed c.in_ok-divided.divided.strangers c.in_ok-tallies.tallies.one.items
    c.in_ok-tallies.tallies.other.items c.len-strangers.result c.in_ok-list.list.items c.in_ok-divided.ensures c.in_ok-tallies.ensures c.len-strangers.ensures c.sorted.ensures.few c.in_ok-list.ensures.permutation
    c.in_ok-list.ensures.sorted
