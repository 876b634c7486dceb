use Rattle.std.proofs.Common.{◌<◌, ◌∙◌, List, length, ap, subst, sym}
use Rattle.std.specs.List.{All}
use Rattle.statement.specs.declared.lines.Fault.{Fault}
use Rattle.netlist.specs.Conditions.{IsSound}
use Rattle.netlist.specs.Lines.{signal_of}
use Rattle.scan_insert.specs.Scanned.{Insertion}
use Rattle.scan_insert.proofs.Ready.{sites_cover}
use Rattle.diagnose.proofs.Found.{signals_within}
use Rattle.grade.proofs.spreading.class_grades.Goals as goal

pub grades_by_play-requires-clause-signals : goal.grades_by_play-requires-clause-signals
grades_by_play-requires-clause-signals g c =
    let d = c.requires.design in
    let n = c.args.design.now.core.now in
    let count = length c.args.design.now.scanned.now.sites in
    let sound = subst IsSound c.netlist.ensures c.sound.ensures in
    let cover = ap (λ (s : Insertion). length s.sites) d.is_scanned ∙ sites_cover n c.args.design.now.chains.now sound d.are_chains in
    subst (λ (fs : List Fault). All (λ (f : Fault). signal_of f.line < count) fs) (sym c.representatives.ensures)
    (signals_within n c.args.design.now.classes.now count sound d.are_classes c.faults_have_signals.ensures cover)
