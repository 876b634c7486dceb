use Rattle.std.proofs.Common.{rules}
use Rattle.atpg_top.proofs.end.Goals as goal

pub returns-clause-code : goal.returns-clause-code
returns-clause-code g c = search rules
