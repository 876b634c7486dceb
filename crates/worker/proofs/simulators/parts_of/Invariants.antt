use Rattle.std.proofs.Common.{◌≡◌, ◌≤◌, length, vec_len, vec_capacity}
use Rattle.std.specs.List.{All}
use Rattle.worker.specs.declared.simulators.Part.{Part}
use Rattle.worker.proofs.simulators.parts_of.Given as goal

abbrev pub invariant-loop-worker : goal.invariant-loop-worker
invariant-loop-worker l = record {
  each : All (λ (p : Part). p.simulator ≡ l.core) l.parts.items;
  len : length l.parts.items ≡ l._worker;
  count : vec_len l.parts ≡ l._worker;
  room : l.workers ≤ vec_capacity l.parts;
}
