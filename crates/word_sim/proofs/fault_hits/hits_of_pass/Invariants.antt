use Rattle.std.proofs.Common.{◌≡◌, take}
use Rattle.word_sim.specs.Hits.{AreHits}
use Rattle.word_sim.specs.inner.Groups.{AreTold}
use Rattle.word_sim.proofs.fault_hits.hits_of_pass.Given as goal

abbrev pub invariant-loop-k : goal.invariant-loop-k
invariant-loop-k l = AreHits l.initial.events.netlist l.pass.patterns.now (take l.k l.pass.faults.now) l.hits.items × (l.events ≡ l.initial.events) × AreTold l.initial.events.netlist l.pass l.told.items
