use Rattle.std.proofs.Common.{◌≡◌, take}
use Rattle.word_sim.specs.inner.Differences.{shown_of}
use Rattle.word_sim.proofs.shown.list_shown.Given as goal

abbrev pub invariant-loop-change : goal.invariant-loop-change
invariant-loop-change l = l.shown.items ≡ shown_of l.first l.count l.values (take l.change-index l.trail)
