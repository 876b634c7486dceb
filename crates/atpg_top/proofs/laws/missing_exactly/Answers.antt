use Rattle.commands.proofs.Exclusive.{missing_exactly as law}
use Rattle.commands.specs.Laws.{OrFails, IsMissing}
use Rattle.command_line.specs.CommandLine.{reads, writes}
use Rattle.atpg_top.specs.Commands.{due}
use Rattle.atpg_top.proofs.Endings.{ends_by}
use Rattle.atpg_top.proofs.laws.missing_exactly.Goals as goal

pub returns : goal.returns
returns c words line files a b s name call first =
    ends_by (OrFails (IsMissing name) a b) words line a b s call.taken call.row
    (λ e row. law (due line) (reads line) (writes line) files a b e name (record { told = call.told; row = row }) first)
