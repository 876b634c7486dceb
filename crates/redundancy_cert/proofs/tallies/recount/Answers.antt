use Rattle.std.proofs.Common.{None, false}
use Rattle.redundancy_cert.specs.inner.Tallies.{shows, contradicts}
use Rattle.redundancy_cert.specs.inner.Passing.{no_label}
use Rattle.redundancy_cert.proofs.TallyLemmas.{enough, followed, few}
use Rattle.std.proofs.Common.{drop}
use Rattle.redundancy_cert.proofs.tallies.recount.Goals as goal

pub follow-counts-requires-clause-differing : goal.follow-counts-requires-clause-differing
follow-counts-requires-clause-differing c =
    enough shows c.args.observed.now c.args.values.now c.args.changes.now c.requires.observed c.requires.within c.requires.once c.loop-change.change-index c.change-item.result
    c.loop-change-test.true c.change-item.is c.index-x.result false no_label c.loop-change.counts.differing c.index-x.ensures c.loop-change.invariant.differing

pub follow-counts-requires-clause-contradicted : goal.follow-counts-requires-clause-contradicted
follow-counts-requires-clause-contradicted c =
    enough contradicts c.args.decided.now c.args.values.now c.args.changes.now c.requires.decided c.requires.within c.requires.once c.loop-change.change-index c.change-item.result
    c.loop-change-test.true c.change-item.is c.index-x.result None no_label c.loop-change.counts.contradicted c.index-x.ensures c.loop-change.invariant.contradicted

pub follow-counts-requires-clause-few_differing : goal.follow-counts-requires-clause-few_differing
follow-counts-requires-clause-few_differing c =
    few shows c.args.observed.now c.args.values.now (drop c.loop-change.change-index c.args.changes.now) c.loop-change.counts.differing c.requires.small c.loop-change.invariant.differing

pub follow-counts-requires-clause-few_contradicted : goal.follow-counts-requires-clause-few_contradicted
follow-counts-requires-clause-few_contradicted c =
    few contradicts c.args.decided.now c.args.values.now (drop c.loop-change.change-index c.args.changes.now) c.loop-change.counts.contradicted c.requires.small
    c.loop-change.invariant.contradicted

pub loop-change-preserved : goal.loop-change-preserved
loop-change-preserved c = record {
  differing = followed shows c.args.observed.now c.args.values.now c.args.changes.now c.requires.observed c.requires.within c.requires.once c.loop-change.change-index
      c.change-item.result c.loop-change-test.true c.change-item.is c.index-x.result false no_label c.loop-change.counts.differing c.follow-counts.result.differing c.index-x.ensures
      c.loop-change.invariant.differing c.follow-counts.ensures.differing;
  contradicted = followed contradicts c.args.decided.now c.args.values.now c.args.changes.now c.requires.decided c.requires.within c.requires.once c.loop-change.change-index
      c.change-item.result c.loop-change-test.true c.change-item.is c.index-x.result None no_label c.loop-change.counts.contradicted c.follow-counts.result.contradicted c.index-x.ensures
      c.loop-change.invariant.contradicted c.follow-counts.ensures.contradicted;
}
