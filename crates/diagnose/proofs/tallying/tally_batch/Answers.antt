use Rattle.std.proofs.Common.{◌++◌, ap, ◌∙◌}
use Rattle.lane_play.specs.Counted.{on_one, on_other}
use Rattle.diagnose.specs.inner.Against.{against}
use Rattle.diagnose.specs.inner.Marked.{marked_in}
use Rattle.diagnose.proofs.TallyLemmas.{tally_more}
use Rattle.diagnose.proofs.tallying.tally_batch.Goals as goal

pub returns : goal.returns
returns c =
    let p = c.args.play.now in
    let marked = marked_in p.marks.now in
    let old = c.args.tallies in
    let more = c.in_ok-counts.counts in
    let batch = c.batch_at-batch.result.now in
    let before = c.requires.old in (
      tally_more (on_one (against marked) marked) p.core.now p.suspects.now batch p.vectors.now c.args.start old.one.items more.one.items _ c.batch_at-batch.ensures.batch before.0 c.in_ok-counts.ensures.one
          (c.in_ok-extend_from_slice.ensures.items ∙ ap (λ xs. old.one.items ++ xs) c.deref.ensures.value),
      tally_more (on_other (against marked) marked) p.core.now p.suspects.now batch p.vectors.now c.args.start old.other.items more.other.items _ c.batch_at-batch.ensures.batch before.1 c.in_ok-counts.ensures.other
          (c.in_ok-extend_from_slice-2.ensures.items ∙ ap (λ xs. old.other.items ++ xs) c.deref-2.ensures.value),
    )
