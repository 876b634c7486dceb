use Rattle.known_tests.proofs.KnownWidths.{known_widths}
use Rattle.known_tests.proofs.laws.known_cycles.Goals as goal

pub returns : goal.returns
returns c = known_widths c.fitting_cycles.ensures
