use Rattle.std.proofs.Common.{◌≡◌, false, take, drop}
use Rattle.std.specs.List.{All}
use Rattle.redundancy_cert.specs.declared.steps.Step.{Step}
use Rattle.redundancy_cert.specs.inner.Passing.{SameRun}
use Rattle.redundancy_cert.specs.inner.Walk.{IsAt}
use Rattle.redundancy_cert.proofs.steps.climb.Given as goal

abbrev pub invariant-loop-k : goal.invariant-loop-k
invariant-loop-k l = record {
  items : l.path.items ≡ l.fn.path.items;
  same : SameRun l.fn.pass l.pass;
  at : IsAt l.pass (take l.k l.path.items);
  none : All (λ (s : Step). s.waiting ≡ false) (drop l.k l.path.items);
}
