use Rattle.commands.proofs.Exclusive.{too_long_exactly as law}
use Rattle.commands.specs.Laws.{OrFails, IsTooLong}
use Rattle.command_line.specs.CommandLine.{reads, writes}
use Rattle.atpg_top.specs.Commands.{due}
use Rattle.atpg_top.proofs.Endings.{ends_by}
use Rattle.atpg_top.proofs.laws.too_long_exactly.Goals as goal

pub returns : goal.returns
returns c words line files a b s name call first =
    ends_by (OrFails (IsTooLong name) a b) words line a b s call.taken call.row
    (λ e row. law (due line) (reads line) (writes line) files a b e name (record { told = call.told; row = row }) first)
