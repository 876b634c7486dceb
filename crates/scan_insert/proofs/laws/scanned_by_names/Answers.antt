use Rattle.scan_insert.proofs.ByNames.{scanned_by_names}
use Rattle.scan_insert.proofs.laws.scanned_by_names.Goals as goal

pub returns : goal.returns
returns c n chains sound are some = scanned_by_names n chains sound are some
