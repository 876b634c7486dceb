use Rattle.std.proofs.Common.{◌≡◌, take}
use Rattle.redundancy_cert.specs.inner.Passing.{SameRun}
use Rattle.redundancy_cert.specs.inner.Walk.{IsAt}
use Rattle.redundancy_cert.proofs.steps.unwind.Given as goal

abbrev pub invariant-loop-k : goal.invariant-loop-k
invariant-loop-k l = record {
  items : l.path.items ≡ l.fn.path.items;
  same : SameRun l.fn.pass l.pass;
  at : IsAt l.pass (take l.k l.path.items);
}
