use Rattle.std.proofs.Common.{refl}
use Rattle.grade.proofs.by_patterns.grade_at.Goals as goal

pub returns : goal.returns
returns c = record {
  cycle = c.strobe_at-cycle.result.cycle;
  output = c.strobe_at-cycle.result.output;
  key_is = c.strobe_at-cycle.ensures.key;
  few = c.strobe_at-cycle.ensures.few;
  grade_is = refl;
}
