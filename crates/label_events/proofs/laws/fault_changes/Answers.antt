use Rattle.label_events.proofs.Changing.{fault_changes}
use Rattle.label_events.proofs.laws.fault_changes.Goals as goal

pub returns : goal.returns
returns c line f g path n holds l x same off s = fault_changes line f g path n same holds l x off s
