use Rattle.std.proofs.Common.{◌≡◌, ◌+◌, length}
use Rattle.run_files.specs.inner.Verdicts.{leaves_of}
use Rattle.run_files.proofs.leaves.leaves_within.Given as goal

abbrev pub invariant-loop-verdict : goal.invariant-loop-verdict
invariant-loop-verdict l = record {
  count : l.class ≡ length l.yielded;
  left : length l.yielded + length l.verdict-iterator.rest.items ≡ length l.fn.verdicts.items;
  items : l.leaves.items ≡ leaves_of l.representatives l.yielded;
}
