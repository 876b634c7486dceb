use Rattle.std.proofs.Common.{◌≡◌, ℕ, ◌<◌, ◌≤◌, None, get_or, vec_len}
use Rattle.list_core.specs.Verdicts.{verdict_at}
use Rattle.run_files.specs.inner.Often.{told_verdict}
use Rattle.run_files.proofs.telling.tell.Given as goal

abbrev pub invariant-loop-class : goal.invariant-loop-class
invariant-loop-class l = record {
  size : vec_len l.verdicts ≡ vec_len l.initial.verdicts;
  told : (c : ℕ) → c < l.class → verdict_at l.verdicts.items c ≡ told_verdict (get_or l.last c None) (verdict_at l.initial.verdicts.items c);
  others : (c : ℕ) → l.class ≤ c → verdict_at l.verdicts.items c ≡ verdict_at l.initial.verdicts.items c;
}
