use Rattle.std.proofs.Common.{◌≡◌, ℕ, ◌<◌, ◌≤◌, Bool, vec_len}
use Rattle.list_core.specs.Verdicts.{verdict_at}
use Rattle.list_core.specs.inner.Marks.{last_at, new_verdict, ArePlaces}
use Rattle.list_core.proofs.compaction.rename.Given as goal

abbrev pub invariant-loop-class : goal.invariant-loop-class
invariant-loop-class l = record {
  size : vec_len l.verdicts ≡ vec_len l.initial.verdicts;
  named : (marked : ℕ → Bool) → ArePlaces marked l.places → (c : ℕ) → c < l.class
      → verdict_at l.verdicts.items c ≡ new_verdict marked (last_at l.last c) (verdict_at l.initial.verdicts.items c);
  others : (marked : ℕ → Bool) → ArePlaces marked l.places → (c : ℕ) → l.class ≤ c → verdict_at l.verdicts.items c ≡ verdict_at l.initial.verdicts.items c;
}
