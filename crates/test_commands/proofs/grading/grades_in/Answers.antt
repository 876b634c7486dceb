use Rattle.std.proofs.Common.{refl, sym, subst}
use Rattle.std.proofs.lemmas.Result.{IfOk-weaker}
use Rattle.statement.specs.Netlists.{Netlist}
use Rattle.good_files.specs.ScanOff.{design_chains}
use Rattle.grade.specs.Patterns.{IsDesignScanned}
use Rattle.test_commands.proofs.GradeLemmas.{told_grades}
use Rattle.test_commands.proofs.grading.grades_in.Goals as goal

pub grades-requires-clause-design : goal.grades-requires-clause-design
grades-requires-clause-design g c =
    let n = c.args.trial.now.netlist in
    let faults = c.args.faults.now in
    let classes = c.in_ok-classes.classes in
    let scanned = c.requires.scanned in
    let is : IsDesignScanned n (design_chains n c.args.asked) c.args.scanned.now faults classes = record {
      is_design = scanned.design;
      are_chains = record { asked = c.args.asked; some = scanned.some; are = refl };
      is_scanned = scanned.is_scanned;
      are_faults = c.requires.faults;
      are_classes = c.in_ok-classes.ensures;
    } in
    subst (λ (m : Netlist). IsDesignScanned m c.in_ok-chains.chains c.args.scanned.now faults classes) (sym c.requires.core)
    (subst (λ chains. IsDesignScanned n chains c.args.scanned.now faults classes) (sym c.in_ok-chains.ensures) is)

pub returns-clause-told : goal.returns-clause-told
returns-clause-told g c =
    IfOk-weaker c.grades.result _ _ (λ grades h. (told_grades c.scanned_is_sound.ensures c.fitting_cycles.ensures c.detected_fails.ensures c.undetected_passes.ensures c.args.trial.now.netlist
    c.args.asked c.args.scanned.now c.args.trial.now.file c.sound.ensures c.sound-2.ensures c.requires.scanned c.requires.fits c.args.faults.now grades.items c.requires.faults h).0) c.grades.ensures

pub returns-clause-outputs : goal.returns-clause-outputs
returns-clause-outputs g c =
    IfOk-weaker c.grades.result _ _ (λ grades h. (told_grades c.scanned_is_sound.ensures c.fitting_cycles.ensures c.detected_fails.ensures c.undetected_passes.ensures c.args.trial.now.netlist
    c.args.asked c.args.scanned.now c.args.trial.now.file c.sound.ensures c.sound-2.ensures c.requires.scanned c.requires.fits c.args.faults.now grades.items c.requires.faults h).1) c.grades.ensures
