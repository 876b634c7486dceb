use Rattle.unknown_inputs.proofs.Tells.{held_unknown_is_untold}
use Rattle.unknown_inputs.proofs.laws.held_unknown_is_untold.Goals as goal

pub returns : goal.returns
returns c n unknown holds f cycles k o sound few untold fit obey passes fails = held_unknown_is_untold n unknown holds f cycles k o sound few untold fit obey passes fails
