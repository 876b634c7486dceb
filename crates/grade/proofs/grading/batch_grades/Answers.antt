use Rattle.std.proofs.Common.{List, Option, sym, subst}
use Rattle.scan_play.specs.declared.played.Played.{Played}
use Rattle.scan_play.specs.inner.Unmet.{unmet_by}
use Rattle.lane_play.specs.Judged.{AreJudged}
use Rattle.grade.proofs.grading.batch_grades.Goals as goal

pub grades_from-requires-clause-judged : goal.grades_from-requires-clause-judged
grades_from-requires-clause-judged c =
    subst (λ (us : List (Option Played)). AreJudged unmet_by c.args.core.now c.args.lines.now c.args.vectors.now us) (sym c.deref.ensures.value) c.in_ok-unmet.ensures
