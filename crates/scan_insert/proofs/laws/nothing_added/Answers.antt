use Rattle.scan_insert.proofs.Unchanged.{nothing}
use Rattle.scan_insert.proofs.laws.nothing_added.Goals as goal

pub returns : goal.returns
returns c n chains f sound are none valid = nothing n chains f sound are none valid
