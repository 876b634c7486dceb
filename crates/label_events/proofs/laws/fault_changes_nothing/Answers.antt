use Rattle.label_events.proofs.Changing.{fault_changes_nothing}
use Rattle.label_events.proofs.laws.fault_changes_nothing.Goals as goal

pub returns : goal.returns
returns c line f g path n holds l same off s = fault_changes_nothing line f g path n same holds l off s
