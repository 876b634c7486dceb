use Rattle.std.proofs.Common.{List, Option, ℕ, subst, sym}
use Rattle.std.specs.List.{AllZip}
use Rattle.statement.specs.declared.lines.Point.{Point}
use Rattle.word_sim.specs.Hits.{LastDetected}
use Rattle.grade.proofs.by_patterns.latest_grades.Goals as goal

pub grade_all-requires : goal.grade_all-requires
grade_all-requires c = record {
  timing = c.requires.timing;
  lines = c.requires.lines;
  wide = c.requires.wide;
  count = c.requires.count;
  told = subst (λ (told : List (Option (ℕ × Point))). AllZip (LastDetected c.args.core.now c.args.latest.now) c.args.faults.now told) (sym c.as_slice.ensures.value) c.in_ok-told.ensures;
}
