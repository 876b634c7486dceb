use Rattle.head_lines.proofs.room.bind_from.Goals as goal

pub loop-next-preserved : goal.loop-next-preserved
loop-next-preserved c = (c.in_ok-next.ensures.roles, λ base h. c.in_ok-next.ensures.beside base (c.loop-next.invariant.1 base h))
