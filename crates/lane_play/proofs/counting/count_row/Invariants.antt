use Rattle.lane_play.specs.Counted.{on_one, on_other}
use Rattle.lane_play.proofs.CountedLemmas.{AreMoreUpTo}
use Rattle.lane_play.proofs.counting.count_row.Given as goal

abbrev pub invariant-loop-o : goal.invariant-loop-o
invariant-loop-o g l = record {
  one : AreMoreUpTo (on_one (g.S.Judge.says l.sides) (g.S.Sides.side l.sides)) l.cycle l.o l.strobes l.shown l.initial.so_far.one.items l.so_far.one.items;
  other : AreMoreUpTo (on_other (g.S.Judge.says l.sides) (g.S.Sides.side l.sides)) l.cycle l.o l.strobes l.shown l.initial.so_far.other.items l.so_far.other.items;
}
