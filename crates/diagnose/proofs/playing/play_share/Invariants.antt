use Rattle.std.proofs.Common.{◌≡◌, length}
use Rattle.diagnose.specs.inner.Plays.{AreAnswersIn}
use Rattle.diagnose.proofs.playing.play_share.Given as goal

abbrev pub invariant-loop-batch : goal.invariant-loop-batch
invariant-loop-batch g l = (length l.answers ≡ length l.initial.answers) × AreAnswersIn l.play l.first l.answers
