use Rattle.std.proofs.Common.{◌≡◌, ◌≤◌, ◌+◌, ◌++◌, drop}
use Rattle.unknown_inputs.specs.Opened.{numbers_of}
use Rattle.unknown_inputs.proofs.inputs.push_numbers.Given as goal

abbrev pub invariant-loop-k : goal.invariant-loop-k
invariant-loop-k l = record {
  made : l.numbers.items ++ numbers_of (drop l.k l.unknown) l.next_known l.next_unknown (drop l.k l.inputs) ≡ l.initial.numbers.items ++ numbers_of l.unknown 0 l.known l.inputs;
  few_known : l.next_known ≤ l.k;
  few_unknown : l.next_unknown ≤ l.known + l.k;
}
