use Rattle.std.proofs.Common.{◌≡◌, ◌<◌, ℕ, take}
use Rattle.std.specs.List.{list_any}
use Rattle.events.specs.Words.{bit_of}
use Rattle.word_sim.specs.inner.Differences.{shows}
use Rattle.detections.proofs.seeing.all_shown.Given as goal

abbrev pub invariant-loop-change : goal.invariant-loop-change
invariant-loop-change l = (j : ℕ) → j < 64 → bit_of j l.all ≡ list_any (shows l.first l.count l.values j) (take l.change-index l.trail)
