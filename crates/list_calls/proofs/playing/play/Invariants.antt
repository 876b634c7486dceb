use Rattle.std.proofs.Common.{true, false}
use Rattle.list_calls.proofs.playing.play.Given as goal

abbrev pub ghosts-play_alone : goal.ghosts-play_alone
ghosts-play_alone g a = record { subject = record a.plan.now { refutes = true } }

abbrev pub ghosts-play_locked : goal.ghosts-play_locked
ghosts-play_locked g a = record { subject = record a.plan.now { refutes = false } }
