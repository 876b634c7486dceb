use Rattle.scan_insert.proofs.Concrete.{behaves_by}
use Rattle.scan_insert.proofs.laws.scan_behaves_by.Goals as goal

pub returns : goal.returns
returns g c same decides table multiplexes blank n chains f inputs state scan_inputs e a b sound are some valid p q =
    behaves_by same decides table multiplexes blank n chains f inputs state scan_inputs e a b sound are some valid p q
