use Rattle.lane_play.proofs.planning.common.Goals as goal

pub returns-then-is_known : goal.returns-then-is_known
returns-then-is_known c k low known = c.is_known.ensures k low c.if-is_known.true
