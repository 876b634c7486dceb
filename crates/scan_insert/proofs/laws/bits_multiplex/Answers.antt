use Rattle.scan_insert.proofs.Concrete.{bits_multiplex}
use Rattle.scan_insert.proofs.laws.bits_multiplex.Goals as goal

pub returns : goal.returns
returns c = bits_multiplex
