use Rattle.std.proofs.Common.{◌≡◌, ◌+◌, ◌≤◌, vec_len}
use Rattle.std.specs.List.{All}
use Rattle.cubes.specs.Cubes.{IsPatternOf}
use Rattle.worker.specs.inner.Tests.{AreTestsOf}
use Rattle.worker.proofs.rounds.publish_words.Given as goal

abbrev pub invariant-loop-left : goal.invariant-loop-left
invariant-loop-left g l = record {
  table : l.share.table ≡ l.fn.share.table;
  few : vec_len l.left ≤ l.share.unspent;
  unspent : l.fn.share.unspent + vec_len l.left ≤ l.share.unspent + vec_len l.fn.patterns;
  fewer : vec_len l.tests ≤ vec_len l.fn.tests;
  wide : All (IsPatternOf g.J.About.subject.netlist g.J.About.subject.holds) l.left.items;
  cubes : AreTestsOf g.J.About.subject l.tests.items;
}

abbrev pub decreases-loop-left : goal.decreases-loop-left
decreases-loop-left g l = vec_len l.left
