use Rattle.std.proofs.Common.{take}
use Rattle.word_sim.specs.inner.Differences.{IsFirstShown}
use Rattle.word_sim.proofs.detecting.first_shown.Given as goal

abbrev pub invariant-loop-change : goal.invariant-loop-change
invariant-loop-change l = IsFirstShown l.first l.count l.values l.j (take l.change-index l.trail) l.least
