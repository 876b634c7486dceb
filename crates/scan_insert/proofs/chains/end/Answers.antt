use Rattle.std.proofs.Common.{rules}
use Rattle.scan_insert.proofs.chains.end.Goals as goal

pub returns-clause-length : goal.returns-clause-length
returns-clause-length c = search rules
