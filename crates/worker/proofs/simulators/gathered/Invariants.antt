use Rattle.std.proofs.Common.{◌≡◌, ◌++◌, List, length, drop}
use Rattle.word_sim.specs.Hits.{AreHits}
use Rattle.word_sim.specs.declared.batches.Hit.{Hit}
use Rattle.worker.specs.inner.Gathering.{AreLeft}
use Rattle.worker.proofs.simulators.gathered.Given as goal

abbrev pub invariant-loop-place : goal.invariant-loop-place
invariant-loop-place l = record {
  size : length l.nexts.items ≡ length l.parts;
  left : AreLeft l.core l.patterns l.deal.numbers.items l.place (drop l.place l.given) l.parts l.nexts.items;
  goes : (hs : List Hit) → AreHits l.core l.patterns (drop l.place l.given) hs → AreHits l.core l.patterns l.given (l.all.items ++ hs);
}
