use Rattle.std.proofs.Common.{◌≡◌, ◌<◌, ℕ, take, get_or}
use Rattle.std.specs.List.{All, Contains}
use Rattle.statement.specs.Netlists.{Definition, gates}
use Rattle.scan_play.specs.Steps.{IsReady}
use Rattle.scan_play.specs.inner.Plans.{AreReady}
use Rattle.scan_play.proofs.planning.is_path.Given as goal

abbrev pub invariant-loop-gate : goal.invariant-loop-gate
invariant-loop-gate l = record {
  reads : (k : ℕ) (g : Definition) → k < l.gate-index → Contains (gates l.netlist) g → g.id ≡ get_or l.steps k 0 → All (IsReady l.netlist l.base (take k l.steps)) g.pins;
  ready : AreReady l.netlist l.base (take l.gate-index l.steps) l.ready.items;
}
