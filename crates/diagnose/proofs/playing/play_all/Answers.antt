use Rattle.std.proofs.Common.{◌<◌, length, get_or, arith}
use Rattle.diagnose.specs.inner.Marked.{marked_in}
use Rattle.diagnose.proofs.Batches.{from_share, of_share}
use Rattle.diagnose.proofs.playing.play_all.Goals as goal

pub for_each_chunk_mut-requires-clause-accepts : goal.for_each_chunk_mut-requires-clause-accepts
for_each_chunk_mut-requires-clause-accepts g c κs within start p chunk =
    let play = c.args.play.now in
    let size = c.requires.size in
    let inside = chunk.in_bounds in (
      omega arith,
      of_share (marked_in play.marks.now) play.core.now play.vectors.now play.suspects.now _ start c.args.answers.now p.now chunk c.requires.old,
    )

pub returns-then-batches-gt0-clause-new : goal.returns-then-batches-gt0-clause-new
returns-then-batches-gt0-clause-new g c k f a l at own =
    let play = c.args.play.now in
    let same = c.for_each_chunk_mut.auto.s in
    let inside : k < length c.args.answers.now = omega arith in
    let r = (c.for_each_chunk_mut.ensures.by_index k a inside).1 in
    let kept = r.call.0 in
    let low = r.offset_in_chunk in
    from_share (marked_in play.marks.now) play.core.now play.vectors.now play.suspects.now r.start r.offset k r.after_call.now f a (get_or c.for_each_chunk_mut.new.s k a)
    r.start_plus_offset (omega arith) r.new_element own at r.call.1
