use Rattle.std.proofs.Common.{arith}
use Rattle.fewer_patterns.proofs.rounds.improved_front.Goals as goal

pub improved-requires-clause-aim : goal.improved-requires-clause-aim
improved-requires-clause-aim g c κs within = record { held = c.requires.aim.held; lines = c.requires.lines; few = omega arith; workers = c.requires.aim.workers }
