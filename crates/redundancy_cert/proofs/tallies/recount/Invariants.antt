use Rattle.std.proofs.Common.{◌≡◌, drop}
use Rattle.events.specs.Trails.{undone}
use Rattle.redundancy_cert.specs.inner.Tallies.{count_pairs, shows, contradicts}
use Rattle.redundancy_cert.proofs.tallies.recount.Given as goal

abbrev pub invariant-loop-change : goal.invariant-loop-change
invariant-loop-change l = record {
  differing : l.counts.differing ≡ count_pairs shows l.observed (undone (drop l.change-index l.changes) l.values);
  contradicted : l.counts.contradicted ≡ count_pairs contradicts l.decided (undone (drop l.change-index l.changes) l.values);
}
