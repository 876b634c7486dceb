use Rattle.std.proofs.Common.{◌≡◌, drop}
use Rattle.scan_play.specs.Judging.{judged_in}
use Rattle.scan_play.proofs.judging.judged_in.Given as goal

-- nothing was said so far
abbrev pub invariant-loop-o : goal.invariant-loop-o
invariant-loop-o g l = judged_in (g.J.Judge.says l.judge) l.cycle 0 l.strobes l.values ≡ judged_in (g.J.Judge.says l.judge) l.cycle l.o (drop l.o l.strobes) (drop l.o l.values)
