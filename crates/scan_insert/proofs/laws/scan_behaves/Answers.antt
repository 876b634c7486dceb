use Rattle.scan_insert.proofs.Concrete.{behaves_dealt}
use Rattle.scan_insert.proofs.laws.scan_behaves.Goals as goal

pub returns : goal.returns
returns c n chains f inputs state scan_inputs e a b sound are some valid p q = behaves_dealt n chains f inputs state scan_inputs e a b sound are some valid p q
