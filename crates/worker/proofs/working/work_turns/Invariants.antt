use Rattle.std.proofs.Common.{◌≡◌, false}
use Rattle.std.specs.Prelude.{IfNone}
use Rattle.worker.specs.inner.Stock.{IsStock}
use Rattle.worker.proofs.working.work_turns.Given as goal

abbrev pub invariant-loop : goal.invariant-loop
invariant-loop g l = record {
  stock : IsStock g.J.About.subject l.share l.cubes;
  goal : IfNone l.brief (l.enough ≡ false);
  table : l.share.table ≡ l.fn.share.table;
  room : g.E.Engine.serves g.J.About.subject.netlist g.J.About.subject.holds l.room;
}
