use Rattle.std.proofs.Common.{◌≡◌, ◌+◌, length}
use Rattle.transition_tests.specs.Lines.{leaves_of}
use Rattle.transition_tests.proofs.leaves.leaves_of.Given as goal

abbrev pub invariant-loop-verdict : goal.invariant-loop-verdict
invariant-loop-verdict l = record {
  count : l.place ≡ length l.yielded;
  left : length l.yielded + length l.verdict-iterator.rest.items ≡ length l.fn.verdicts.items;
  items : l.leaves.items ≡ leaves_of l.faults l.yielded;
}
