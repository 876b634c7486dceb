use Rattle.certificate.proofs.FirstLines.{one_list}
use Rattle.certificate.proofs.laws.one_certificate.Goals as goal

pub returns : goal.returns
returns c = one_list
