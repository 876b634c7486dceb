use Rattle.label_events.proofs.Changing.{decision_changes}
use Rattle.label_events.proofs.laws.decision_changes.Goals as goal

pub returns : goal.returns
returns c f path path' n holds l x same s = decision_changes f path path' n holds l x same s
