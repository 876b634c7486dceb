use Rattle.std.proofs.Common.{List, subst, sym}
use Rattle.std.specs.List.{All, AllZip}
use Rattle.statement.specs.declared.lines.Fault.{Fault}
use Rattle.statement.specs.Tests.{vectors_in}
use Rattle.netlist.specs.Conditions.{IsSound}
use Rattle.netlist.specs.Lines.{IsLineOf}
use Rattle.scan_insert.specs.Scanned.{Insertion}
use Rattle.grade.specs.Patterns.{IsPatternGrade}
use Rattle.grade.specs.inner.Spread.{AreSiteGrades}
use Rattle.grade.proofs.Graded.{site_grades}
use Rattle.grade.proofs.Spread.{lines_of_classes}
use Rattle.grade.proofs.spreading.grades_by_patterns.Goals as goal

pub pattern_grades-requires-clause-lines : goal.pattern_grades-requires-clause-lines
pattern_grades-requires-clause-lines g c =
    let n = c.args.design.now.core.now in
    let sound = subst IsSound c.netlist.ensures c.sound.ensures in
    subst (λ (fs : List Fault). All (λ (f : Fault). IsLineOf n f.line) fs) (sym c.representatives-representatives.ensures)
    (lines_of_classes c.faults_have_lines.ensures n sound c.args.design.now.classes.now c.requires.design.are_classes)

pub pattern_grades-requires-clause-wide : goal.pattern_grades-requires-clause-wide
pattern_grades-requires-clause-wide g c = c.requires.test.wide

pub pattern_grades-requires-clause-count : goal.pattern_grades-requires-clause-count
pattern_grades-requires-clause-count g c = c.requires.test.few

pub returns : goal.returns
returns g c =
    let grades = c.in_ok-grades.grades in
    let n = c.args.design.now.core.now in
    let d = c.requires.design in
    let sound = subst IsSound c.netlist.ensures c.sound.ensures in
    let cycles = vectors_in c.args.file.now in
    let is = c.representatives-representatives.ensures in
    subst (λ (s : Insertion). AreSiteGrades s cycles c.args.design.now.classes.now.representatives grades.items) (sym d.is_scanned)
    (site_grades c.patterns_grade.ensures n c.args.design.now.chains.now cycles c.args.patterns.items sound d.is_design d.are_chains c.requires.test c.args.design.now.classes.now.representatives grades.items
    (lines_of_classes c.faults_have_lines.ensures n sound c.args.design.now.classes.now d.are_classes)
    (subst (λ (fs : List Fault). AllZip (IsPatternGrade n c.args.design.now.chains.now c.args.patterns.items) fs grades.items) is c.in_ok-grades.ensures))
