use Rattle.std.proofs.Common.{List, subst, sym}
use Rattle.std.specs.List.{All}
use Rattle.statement.specs.Runs.{Cycle}
use Rattle.scan_play.specs.Cycles.{IsCycleOf}
use Rattle.file_calls.proofs.wrong.told_of.Goals as goal

pub first_wrong-requires-clause-fits : goal.first_wrong-requires-clause-fits
first_wrong-requires-clause-fits c =
    let fit = c.fitting_cycles.ensures c.args.file.now c.args.core.now c.sound.ensures c.requires in
    subst (λ (cycles : List Cycle). All (IsCycleOf c.args.core.now) cycles) (sym c.in_ok-vectors.ensures) fit
