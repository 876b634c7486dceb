use Rattle.std.proofs.Common.{◌≡◌, ℕ, None, length}
use Rattle.tri.specs.Labelling.{decided_in}
use Rattle.tri.proofs.labelling.Labelling.new.Given as goal

abbrev pub invariant-loop-done : goal.invariant-loop-done
invariant-loop-done l = (length l.decided.items ≡ l._done) × ((x : ℕ) → decided_in l.decided.items x ≡ None)
