use Rattle.std.proofs.Common.{◌≡◌, false, take}
use Rattle.std.specs.List.{list_any}
use Rattle.pair_sim.specs.inner.Levels.{clashes_at}
use Rattle.pair_sim.proofs.levels.has_clash.Given as goal

abbrev pub invariant-loop-change : goal.invariant-loop-change
invariant-loop-change l = list_any (clashes_at l.labelling.decided.items l.values) (take l.change-index l.changes) ≡ false
