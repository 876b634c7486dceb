use Rattle.std.proofs.Common.{◌*◌, take}
use Rattle.diagnose.specs.inner.Plays.{AreTalliesIn}
use Rattle.diagnose.proofs.tallying.tallies.Given as goal

abbrev pub invariant-loop-batch : goal.invariant-loop-batch
invariant-loop-batch g l = AreTalliesIn l.play (take (l.batch * 128) l.play.suspects.now) l.tallies.one.items l.tallies.other.items
