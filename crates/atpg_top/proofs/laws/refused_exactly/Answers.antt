use Rattle.commands.proofs.Exclusive.{refused_exactly as law}
use Rattle.commands.specs.Laws.{OrFails, IsRefusedFor}
use Rattle.command_line.specs.CommandLine.{reads, writes}
use Rattle.atpg_top.specs.Commands.{due}
use Rattle.atpg_top.proofs.Endings.{ends_by}
use Rattle.atpg_top.proofs.Exclusive.{each_exclusive}
use Rattle.atpg_top.proofs.laws.refused_exactly.Goals as goal

pub returns : goal.returns
returns c words line files a b s texts r call whole refused =
    ends_by (OrFails (IsRefusedFor r) a b) words line a b s call.taken call.row
    (λ e row. law (due line) (reads line) (writes line) files a b e texts r (record { told = call.told; row = row }) whole (each_exclusive c.at_most_one.ensures c.check_exclusive.ensures c.one_log.ensures line) refused)
