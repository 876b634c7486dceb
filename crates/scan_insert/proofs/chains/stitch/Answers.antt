use Rattle.std.proofs.Common.{rules}
use Rattle.scan_insert.proofs.chains.stitch.Goals as goal

pub deal-requires-clause-enough : goal.deal-requires-clause-enough
deal-requires-clause-enough c = search rules
