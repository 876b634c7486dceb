use Rattle.std.proofs.Common.{◌∙◌, List, map, subst, sym}
use Rattle.std.specs.List.{All, AllZip}
use Rattle.std.specs.Prelude.{IfOk}
use Rattle.statement.specs.declared.lines.Fault.{Fault}
use Rattle.statement.specs.Netlists.{Netlist}
use Rattle.statement.specs.Runs.{Cycle}
use Rattle.statement.specs.Tests.{vectors_in}
use Rattle.scan_play.specs.Cycles.{IsCycleOf}
use Rattle.chain_test.specs.Hardware.{at_site}
use Rattle.grade.specs.Grades.{IsGraded}
use Rattle.grade.proofs.spreading.grades_in.Goals as goal

pub line_grades-requires-clause-fits : goal.line_grades-requires-clause-fits
line_grades-requires-clause-fits g c =
    let file = c.args.file.now in
    let fit = c.fitting_cycles.ensures file c.args.scanned.now.netlist c.sound.ensures c.requires.fits in
    subst (λ (cycles : List Cycle). All (IsCycleOf c.args.core.now) cycles) (sym c.in_ok-cycles.ensures.cycles)
    (subst (λ (n : Netlist). All (IsCycleOf n) (vectors_in file)) (sym c.requires.core) fit)

pub returns : goal.returns
returns g c =
    let cycles = c.in_ok-cycles.cycles in
    let reps = map (at_site c.args.scanned.now.sites) c.args.representatives.now in
    let sites = c.deref.ensures.value ∙ c.in_ok-sites.ensures in
    subst (λ (cs : List Cycle). IfOk c.line_grades.result (λ grades. AllZip (λ f grade. IsGraded c.args.scanned.now.netlist f cs grade) reps grades.items)) c.in_ok-cycles.ensures.cycles
    (subst (λ (m : Netlist). IfOk c.line_grades.result (λ grades. AllZip (λ f grade. IsGraded m f cycles grade) reps grades.items)) c.requires.core
    (subst (λ (fs : List Fault). IfOk c.line_grades.result (λ grades. AllZip (λ f grade. IsGraded c.args.core.now f cycles grade) fs grades.items)) sites c.line_grades.ensures))
