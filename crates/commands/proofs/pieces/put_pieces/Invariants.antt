use Rattle.std.proofs.Common.{◌≡◌, [], take}
use Rattle.commands.specs.Pieces.{Waits, join}
use Rattle.commands.proofs.pieces.put_pieces.Given as goal

abbrev pub invariant-loop-piece : goal.invariant-loop-piece
invariant-loop-piece g l = Waits (g.T.Sink.taken l.fn.out) (g.T.Sink.taken l.out) (join (take l.piece-index l.pieces)) []
    × (g.T.Sink.failures l.out ≡ g.T.Sink.failures l.fn.out)
