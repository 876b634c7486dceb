use Rattle.std.proofs.Common.{◌+◌, ◌≤◌, length}
use Rattle.lane_play.specs.inner.Apart.{AreOpen}
use Rattle.lane_play.proofs.legs.team_from.Given as goal

abbrev pub invariant-loop-place : goal.invariant-loop-place
invariant-loop-place l = record {
  few : length l.places.items ≤ 128;
  sparse : length l.places.items + l.fn.start ≤ l.place;
  all : AreOpen l.machines l.fn.start l.place l.places.items;
}
