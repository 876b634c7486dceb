use Rattle.std.proofs.Common.{◌≡◌, ℕ, ◌<◌, get_or, length, take, vec_len}
use Rattle.run_files.specs.inner.Classes.{asked_in}
use Rattle.run_files.proofs.asked.class_weights.Given as goal

abbrev pub invariant-loop-i : goal.invariant-loop-i
invariant-loop-i l = record {
  size : vec_len l.weights ≡ length l.classes.representatives;
  each : (class : ℕ) → class < length l.classes.representatives → get_or l.weights.items class 0 ≡ asked_in (take l.i l.classes.numbers) (take l.i l.faults) class;
}
