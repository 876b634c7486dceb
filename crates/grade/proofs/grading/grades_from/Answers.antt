use Rattle.std.proofs.Common.{map, sym, ◌∙◌, ap, subst}
use Rattle.std.specs.List.{AllZip, zip}
use Rattle.netlist.specs.Conditions.{IsSound}
use Rattle.grade.specs.Grades.{IsGraded}
use Rattle.grade.specs.inner.Told.{grade_of}
use Rattle.grade.proofs.Batches.{all_graded, all_told}
use Rattle.grade.proofs.grading.grades_from.Goals as goal

pub returns-then-not-are_open : goal.returns-then-not-are_open
returns-then-not-are_open c =
    let n = c.args.core.now in
    let cycles = c.args.vectors.now in
    let lines = c.args.lines.now in
    let sound = subst IsSound c.netlist.ensures c.sound.ensures in
    let none = sym c.are_open.ensures ∙ c.if-not-are_open.true in
    let told = all_told n sound.closed sound.acyclic cycles c.requires.fits lines c.args.unmet.now c.requires.judged none in
    subst (λ gs. AllZip (λ f grade. IsGraded n f cycles grade) lines gs) (sym c.in_ok-grades.ensures) told

pub returns : goal.returns
returns c =
    let n = c.args.core.now in
    let cycles = c.args.vectors.now in
    let lines = c.args.lines.now in
    let sound = subst IsSound c.netlist.ensures c.sound.ensures in
    let graded = all_graded n sound.closed sound.acyclic cycles c.requires.fits lines c.args.unmet.now c.in_ok-wrong.wrong.items c.requires.judged c.in_ok-wrong.ensures in
    let read = ap (λ vs. map (λ p. grade_of p.0 p.1) (zip c.args.unmet.now vs)) c.deref.ensures.value in
    subst (λ gs. AllZip (λ f grade. IsGraded n f cycles grade) lines gs) (sym (c.in_ok-grades-2.ensures ∙ read)) graded
