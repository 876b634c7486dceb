use Rattle.atpg_top.proofs.sweeping.play_passing.Goals as goal

pub unreachable-requires : goal.unreachable-requires
unreachable-requires c = c.in_default.not-Passes (c.requires.passes c.in_ok-answer.answer c.in_ok-answer.ensures.plays.plays)
