use Rattle.command_line.proofs.FileLemmas.{nothing_written_over}
use Rattle.command_line.proofs.laws.nothing_written_over.Goals as goal

pub returns : goal.returns
returns c = nothing_written_over
