use Rattle.std.proofs.Common.{◌+◌, ◌-◌, ◌≤◌, List, Option, length, take, drop, subst, sym}
use Rattle.scan_play.specs.declared.played.Played.{Played}
use Rattle.lane_play.specs.Judged.{AreJudged}
use Rattle.diagnose.specs.inner.Against.{against}
use Rattle.diagnose.specs.inner.Marked.{marked_in}
use Rattle.diagnose.proofs.Batches.{batch_fits, batch_put}
use Rattle.diagnose.proofs.playing.play_batch.Goals as goal

pub put_answers-requires : goal.put_answers-requires
put_answers-requires c =
    let p = c.args.play.now in
    let old = c.args.answers.now in
    subst (λ (xs : List (Option Played)). c.args.start + length xs ≤ length old) (sym c.deref.ensures.value)
    (batch_fits (marked_in p.marks.now) p.core.now p.vectors.now p.suspects.now c.args.first c.args.start c.min-count.result old c.in-Ok.said.items c.min-count.ensures c.requires.start c.requires.share c.in-Ok.ensures)

pub returns-in-Ok-clause-new : goal.returns-in-Ok-clause-new
returns-in-Ok-clause-new c =
    let p = c.args.play.now in
    let marked = marked_in p.marks.now in
    let begin = c.args.first + c.args.start in
    let count = c.min-count.result in
    let judged = subst (λ (xs : List (Option Played)). AreJudged (against marked) p.core.now (take (begin + count - begin) (drop begin p.suspects.now)) p.vectors.now xs) (sym c.deref.ensures.value) c.in-Ok.ensures in
    batch_put marked p.core.now p.vectors.now p.suspects.now c.args.first c.args.start count c.args.answers.now c.deref.result.now c.min-count.ensures c.requires.start c.requires.share judged c.put_answers.new.answers
    c.requires.old c.put_answers.ensures
