use Rattle.std.proofs.Common.{◌≡◌, ◌+◌, ◌≤◌, vec_len}
use Rattle.worker.specs.inner.Tests.{AreTestsOf}
use Rattle.worker.proofs.hunting.take_turns.Given as goal

abbrev pub invariant-loop : goal.invariant-loop
invariant-loop g l = record {
  table : l.share.table ≡ l.fn.share.table;
  room : g.E.Engine.serves g.J.About.subject.netlist g.J.About.subject.holds l.room;
  cubes : AreTestsOf g.J.About.subject l.tests.items;
  unspent : vec_len l.claims + vec_len l.tests ≤ l.share.unspent;
}
