use Rattle.tri.proofs.ClosedLemmas.{closed_detects_nothing}
use Rattle.tri.proofs.laws.closed_detects_nothing.Goals as goal

pub returns : goal.returns
returns c f path n holds l inputs state point sound r at obeys agrees =
    closed_detects_nothing f path n holds l inputs state point sound r at obeys agrees
