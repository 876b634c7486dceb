use Rattle.std.proofs.Common.{◌<◌, List, length, sym, subst, ap, ◌∙◌}
use Rattle.std.specs.List.{All}
use Rattle.statement.specs.declared.lines.Fault.{Fault}
use Rattle.statement.specs.Faults.{universe_of}
use Rattle.statement.specs.Netlists.{Netlist, signals}
use Rattle.netlist.specs.Lines.{signal_of}
use Rattle.scan_insert.specs.Scanned.{Insertion, scanned_of}
use Rattle.good_files.specs.ScanOff.{design_chains}
use Rattle.grade.specs.declared.grade.Grade.{Grade}
use Rattle.test_commands.specs.Grades.{grade_counts, grades_text}
use Rattle.test_commands.specs.inner.GradeTrials.{IsGradeOutput}
use Rattle.test_commands.proofs.ChainTestLemmas.{signals_of, zip_length}
use Rattle.test_commands.proofs.grading.texts_of.Goals as goal

pub grade_texts-requires-clause-size : goal.grade_texts-requires-clause-size
grade_texts-requires-clause-size g c =
    ap length c.deref.ensures.value
    ∙ (zip_length _ (universe_of c.args.trial.now.netlist) c.in_ok-grades.grades.items c.in_ok-grades.ensures.told ∙ ap length (sym c.in_ok-faults.ensures))

pub grade_texts-requires-clause-signals : goal.grade_texts-requires-clause-signals
grade_texts-requires-clause-signals g c =
    let n = c.args.trial.now.netlist in
    subst (λ (fs : List Fault). All (λ (f : Fault). signal_of f.line < length (signals n)) fs) (sym c.in_ok-faults.ensures) (signals_of c.faults_have_signals.ensures n c.sound.ensures)

pub grade_texts-requires-clause-outputs : goal.grade_texts-requires-clause-outputs
grade_texts-requires-clause-outputs g c =
    subst (λ (m : Netlist). All (IsGradeOutput m) c.deref.result.now) (sym c.netlist.ensures)
    (subst (λ (gs : List Grade). All (IsGradeOutput c.args.scanned.now.netlist) gs) (sym c.deref.ensures.value) c.in_ok-grades.ensures.outputs)

pub returns : goal.returns
returns g c =
    let n = c.args.trial.now.netlist in
    let s = scanned_of n (design_chains n c.args.asked) in
    let is = c.netlist.ensures ∙ ap (λ (i : Insertion). i.netlist) c.requires.scanned.is_scanned in
    record {
      grades = c.in_ok-grades.grades.items;
      each = c.in_ok-grades.ensures.told;
      text_is = c.in_ok-made.ensures.text
          ∙ (ap (λ (m : Netlist). grades_text n m c.in_ok-faults.faults c.deref.result.now) is
          ∙ (ap (λ (fs : List Fault). grades_text n s fs c.deref.result.now) c.in_ok-faults.ensures ∙ ap (λ (gs : List Grade). grades_text n s (universe_of n) gs) c.deref.ensures.value));
      line_is = c.in_ok-made.ensures.line ∙ ap grade_counts c.deref.ensures.value;
    }
