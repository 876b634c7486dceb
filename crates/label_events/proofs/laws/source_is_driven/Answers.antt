use Rattle.label_events.proofs.Changing.{is_driven}
use Rattle.label_events.proofs.laws.source_is_driven.Goals as goal

pub returns : goal.returns
returns c f path n holds x sound are = is_driven f path n holds sound are x
