use Rattle.commands.proofs.Exclusive.{failed_exactly as law}
use Rattle.commands.proofs.laws.failed_exactly.Goals as goal

pub returns : goal.returns
returns g c = λ work. law (g.W.Work.due work)
