use Rattle.commands.proofs.Exclusive.{nothing_else as law}
use Rattle.commands.specs.Laws.{OrFails, IsEnded}
use Rattle.command_line.specs.CommandLine.{reads, writes}
use Rattle.atpg_top.specs.Commands.{due}
use Rattle.atpg_top.proofs.Endings.{ends_by}
use Rattle.atpg_top.proofs.Exclusive.{each_exclusive}
use Rattle.atpg_top.proofs.laws.nothing_else.Goals as goal

pub returns : goal.returns
returns c words line files a b s texts made shown finding call whole work no_shelf no_out =
    ends_by (OrFails (IsEnded finding) a b) words line a b s call.taken call.row
    (λ e row. law (due line) (reads line) (writes line) files a b e texts made shown finding (record { told = call.told; row = row }) whole (each_exclusive c.at_most_one.ensures c.check_exclusive.ensures c.one_log.ensures line) work no_shelf no_out)
