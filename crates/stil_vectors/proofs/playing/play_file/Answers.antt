use Rattle.std.proofs.Common.{List, sym, subst}
use Rattle.std.specs.List.{All}
use Rattle.statement.specs.Runs.{Cycle}
use Rattle.scan_play.specs.Cycles.{IsCycleOf}
use Rattle.stil_vectors.proofs.playing.play_file.Goals as goal

pub play-requires-clause-fits : goal.play-requires-clause-fits
play-requires-clause-fits c =
    subst (λ (cycles : List Cycle). All (IsCycleOf c.args.core.now) cycles) (sym c.in_ok-vectors.ensures) (c.fitting_cycles.ensures c.args.file.now c.args.core.now c.sound.ensures c.requires)
