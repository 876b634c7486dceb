use Rattle.tri.proofs.KnownBits.{known_values}
use Rattle.tri.proofs.laws.known_values.Goals as goal

pub returns : goal.returns
returns c f n inputs state t a closed acyclic p q = known_values f n inputs state t a closed acyclic p q
