use Rattle.transition_play.proofs.SlowObeying.{vectors_obey}
use Rattle.transition_play.proofs.laws.launch_vectors_obey.Goals as goal

pub returns : goal.returns
returns c n holds chains patterns cycles v obey = vectors_obey n holds chains patterns cycles v obey
