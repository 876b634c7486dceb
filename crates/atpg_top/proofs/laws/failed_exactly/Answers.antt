use Rattle.commands.specs.Laws.{IsFailure}
use Rattle.commands.proofs.Exclusive.{failed_exactly as law}
use Rattle.command_line.specs.CommandLine.{reads, writes}
use Rattle.atpg_top.specs.Commands.{due}
use Rattle.atpg_top.proofs.Endings.{ends_by}
use Rattle.atpg_top.proofs.laws.failed_exactly.Goals as goal

pub returns : goal.returns
returns c words line a b s taken row some =
    ends_by (IsFailure a b) words line a b s taken row (λ e r. law (due line) (reads line) (writes line) a b e r some)
