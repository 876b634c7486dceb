use Rattle.std.proofs.Common.{◌≡◌, take, length}
use Rattle.netlist.specs.Settling.{AreEvaluated}
use Rattle.netlist.proofs.rules.evaluate_all.Given as goal

abbrev pub invariant-loop-id : goal.invariant-loop-id
invariant-loop-id g l = record {
  size : length l.values.items ≡ length l.initial.values.items;
  made : AreEvaluated (g.L.Logic.rule l.logic) l.netlist (take l.id-index l.steps) l.initial.values.items l.values.items;
}
