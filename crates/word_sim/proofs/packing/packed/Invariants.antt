use Rattle.std.proofs.Common.{◌≡◌, ◌<◌, ℕ, get_or, length}
use Rattle.word_sim.specs.inner.Packed.{IsColumn}
use Rattle.word_sim.proofs.packing.packed.Given as goal

abbrev pub invariant-loop-place : goal.invariant-loop-place
invariant-loop-place l = (length l.words.items ≡ l.place) × ((k : ℕ) → k < l.place → IsColumn l.part l.patterns k (length l.patterns) (get_or l.words.items k 0))
