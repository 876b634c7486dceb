use Rattle.std.proofs.Common.{◌≡◌, ◌<◌, ℕ, take}
use Rattle.std.specs.List.{list_any}
use Rattle.events.specs.Words.{bit_of}
use Rattle.word_sim.specs.inner.Differences.{shows_under}
use Rattle.word_sim.proofs.shown.all_under.Given as goal

abbrev pub invariant-loop-k : goal.invariant-loop-k
invariant-loop-k l = (j : ℕ) → j < 64 → bit_of j l.all ≡ list_any (shows_under j) (take l.k l.shown)
