use Rattle.lane_play.proofs.VerdictLemmas.{AreJudgedUpTo}
use Rattle.lane_play.proofs.judging.judge_row.Given as goal

abbrev pub invariant-loop-o : goal.invariant-loop-o
invariant-loop-o g l = AreJudgedUpTo (g.J.Judge.says l.judge) l.cycle l.o l.strobes l.shown l.initial.so_far.found.items l.so_far.found.items
