use Rattle.std.proofs.Common.{◌≡◌, ◌∙◌, ℕ, refl, subst, sym, set, get_or, arith}
use Rattle.std.proofs.lemmas.List.{get_or_default}
use Rattle.events.specs.Standing.{Standing}
use Rattle.grade.specs.declared.grade.Grade.TheVariants.{Undetected}
use Rattle.grade.specs.inner.ByPatterns.{IsBatch, IsGradedAt}
use Rattle.grade.proofs.Graded.{part_begun, part_ended, part_more}
use Rattle.grade.proofs.by_patterns.grade_batch.Goals as goal

pub loop-i-init : goal.loop-i-init
loop-i-init c = (part_begun c.args.asked.now c.args.start c.args.grades.items c.requires.before, refl)

pub regraded-requires-clause-batch : goal.regraded-requires-clause-batch
regraded-requires-clause-batch c = subst (λ (e : Standing ℕ). IsBatch c.args.asked.now c.args.start e c.args.paths.now) (sym c.loop-i.invariant.1) c.requires.batch

pub regraded-requires-clause-before : goal.regraded-requires-clause-before
regraded-requires-clause-before c =
    let i = c.loop-i.i in
    let grades = c.loop-i.grades.items in
    let size = c.loop-i.invariant.0.size in
    let is : c.index-grade.result.now ≡ get_or grades i Undetected =
    c.index-grade.ensures ∙ get_or_default grades i c.index-grade.result.now Undetected (omega (arith, size, c.loop-i-test.true)) in
    subst (IsGradedAt c.args.asked.now c.args.start i) (sym is) (c.loop-i.invariant.0.left i (omega arith))

pub loop-i-preserved : goal.loop-i-preserved
loop-i-preserved c = (
  part_more c.args.asked.now c.args.start c.loop-i.i c.loop-i.grades.items (set c.loop-i.grades.items c.loop-i.i c.regraded.result) c.regraded.result c.loop-i-test.true refl
      c.regraded.ensures.graded c.loop-i.invariant.0,
  c.regraded.ensures.same ∙ c.loop-i.invariant.1,
)

pub returns-clause-graded : goal.returns-clause-graded
returns-clause-graded c = part_ended c.args.asked.now c.args.start c.loop-i.i c.loop-i.grades.items c.loop-i-test.false c.loop-i.invariant.0
