use Rattle.fault_collapse.proofs.Equivalent.{all_classes_made}
use Rattle.fault_collapse.proofs.collapsing.numbered.Goals as goal

pub returns : goal.returns
returns c = all_classes_made c.args.netlist.now c.sound.ensures c.in_ok-parents.parents.items c.deref.result.now c.args.faults.now c.deref.ensures.value c.requires.universe c.in_ok-parents.ensures c.number.result c.number.ensures
