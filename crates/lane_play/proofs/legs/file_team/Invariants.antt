use Rattle.lane_play.specs.inner.Apart.{AreFiled}
use Rattle.lane_play.proofs.legs.file_team.Given as goal

abbrev pub invariant-loop-k : goal.invariant-loop-k
invariant-loop-k l = AreFiled l.team.places.items l.k l.state l.said l.initial.machines l.machines
