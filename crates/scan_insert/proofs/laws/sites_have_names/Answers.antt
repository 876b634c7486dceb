use Rattle.scan_insert.proofs.ByNames.{sites_have_names}
use Rattle.scan_insert.proofs.laws.sites_have_names.Goals as goal

pub returns : goal.returns
returns c n chains sound are = sites_have_names n chains sound are
