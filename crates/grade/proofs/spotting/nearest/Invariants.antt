use Rattle.std.proofs.Common.{take}
use Rattle.word_sim.specs.inner.Differences.{IsFirstShown}
use Rattle.grade.specs.inner.Keys.{most_key}
use Rattle.grade.proofs.spotting.nearest.Given as goal

abbrev pub invariant-loop-change : goal.invariant-loop-change
invariant-loop-change l = IsFirstShown l.keys most_key l.values l.j (take l.change-index l.trail) l.least
