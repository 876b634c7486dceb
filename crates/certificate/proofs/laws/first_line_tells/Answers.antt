use Rattle.certificate.proofs.FirstLines.{first_tells}
use Rattle.certificate.proofs.laws.first_line_tells.Goals as goal

pub returns : goal.returns
returns c = first_tells
