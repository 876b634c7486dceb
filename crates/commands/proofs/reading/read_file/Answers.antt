use Rattle.std.proofs.Common.{rules}
use Rattle.commands.proofs.reading.read_file.Goals as goal

pub returns-in-Err-Missing : goal.returns-in-Err-Missing
returns-in-Err-Missing g c = search rules
