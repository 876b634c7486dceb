use Rattle.std.proofs.Common.{◌∙◌, ◌+◌}
use Rattle.std.proofs.lemmas.Result.{err_from_is_err_and}
use Rattle.commands.proofs.PutLemmas.{join_more, join_whole, piece_put, pieces_refused}
use Rattle.commands.proofs.pieces.put_pieces.Goals as goal

pub returns-in_err-put-clause-told : goal.returns-in_err-put-clause-told
returns-in_err-put-clause-told g c =
    let p = err_from_is_err_and c.from_residual.result c.from_residual.ensures.1 in
    let pieces = c.args.pieces.now in
    let i = c.loop-piece.piece-index in
    let all = join_whole pieces (i + 1) in
    rw (p.1, p.2) (pieces_refused _ _ _ _ _ _ _ _ _ _ _ c.in_err-put.field-0.0 c.loop-piece.invariant.0 c.loop-piece.invariant.1
    (join_more pieces i _ c.loop-piece-test.true) all c.in_err-put.ensures.told c.in_err-put.ensures.cause)

pub loop-piece-preserved : goal.loop-piece-preserved
loop-piece-preserved g c = (
  piece_put _ _ _ _ _ _ c.loop-piece.invariant.0 (join_more c.args.pieces.now c.loop-piece.piece-index _ c.loop-piece-test.true) c.in_ok-put.ensures.told,
  c.in_ok-put.ensures.cause ∙ c.loop-piece.invariant.1,
)
