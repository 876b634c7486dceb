-- The texts of verdicts, put together.
use Rattle.std.proofs.Common.{◌≡◌, ◌∙◌, ℕ, Bool, List, Vec, length, sym, ap, subst}
use Rattle.std.specs.declared.alloc.Global.{Global}
use Rattle.statement.specs.Faults.{universe_of}
use Rattle.statement.specs.Reports.{Line}
use Rattle.statement.specs.Netlists.{Netlist}
use Rattle.statement.specs.Patterns.{Holds, Pattern}
use Rattle.statement.specs.Benches.{canonical}
use Rattle.scan_insert.specs.Scanned.{Insertion, insertion_of, scanned_of}
use Rattle.good_files.specs.ScanOff.{design_chains}
use Rattle.fault_collapse.specs.Classes.{AreClasses}
use Rattle.fault_collapse.specs.Numbers.{Classes}
use Rattle.report.specs.Reports.{IsReport, Report}
use Rattle.report.specs.Texts.{report_text}
use Rattle.list_core.specs.declared.verdicts.Verdict.{Verdict}
use Rattle.run_report.specs.Subjects.{IsSubjectOf}
use Rattle.run_report.specs.declared.subjects.Subject.{Subject}
use Rattle.run_files.specs.declared.asked.RunPlan.{RunPlan}
use Rattle.run_files.specs.declared.asked.Wanted.{Wanted}
use Rattle.run_files.specs.declared.files.RunFiles.{RunFiles}
use Rattle.run_files.specs.declared.texts.NetlistTexts.{NetlistTexts}
use Rattle.run_files.specs.declared.texts.TestTexts.{TestTexts}
use Rattle.run_files.specs.inner.Laws.{IsFinished, MayMake}
use Rattle.run_files.specs.inner.Outcomes.{AreLines}
use Rattle.run_files.specs.inner.Reports.{AreTimes, IsReported, IsSaid}
use Rattle.run_files.specs.inner.Searches.{AreSearched}
use Rattle.run_files.specs.inner.Written.{AreNetlistTexts, AreTestTexts, IsMadeOf, IsTestText, IsWritten}

abbrev Text : Type 0
Text = Vec ℕ Global

pub scanned_lent : (n m : Netlist) (chains : List (List ℕ)) (i : Insertion) → i ≡ insertion_of n chains → m ≡ i.netlist → m ≡ scanned_of n chains
scanned_lent n m chains i is same = same ∙ ap (λ (j : Insertion). j.netlist) is

pub said_is : (n : Netlist) (chains : List (List ℕ)) (holds : Holds) (classes : Classes) (limit count : ℕ) (marks : List Bool) (patterns : List Pattern) (verdicts : List Verdict) (lines : List Line) (r : Report)
    → AreLines n chains classes.numbers marks verdicts (length (universe_of n)) lines
    → IsReported n chains holds (length (universe_of n)) (length classes.representatives) count limit lines r → count ≡ length patterns
    → IsSaid n chains holds classes limit marks patterns verdicts r
said_is n chains holds classes limit count marks patterns verdicts lines r all is same = record {
  lines = subst (λ (ls : List Line). AreLines n chains classes.numbers marks verdicts (length (universe_of n)) ls) (sym is.lines_are) all;
  numbers = subst (λ (ls : List Line). IsReported n chains holds (length (universe_of n)) (length classes.representatives) (length patterns) limit ls r) (sym is.lines_are)
      (subst (λ (k : ℕ). IsReported n chains holds (length (universe_of n)) (length classes.representatives) k limit lines r) same is);
}

pub written_by : (n scanned : Netlist) (holds : Holds) (chains : List (List ℕ)) (classes : Classes) (limit times : ℕ) (marks : List Bool) (patterns : List Pattern) (verdicts : List Verdict)
    (netlists : NetlistTexts) (test : TestTexts) (said : Report) (made : RunFiles) → IsMadeOf netlists test said made → AreNetlistTexts n scanned netlists
    → AreTestTexts n holds chains classes patterns verdicts test → IsSaid n chains holds classes limit marks patterns verdicts said → AreTimes n patterns times said.times
    → scanned ≡ scanned_of n chains → IsWritten n holds chains classes limit times marks patterns verdicts made
written_by n scanned holds chains classes limit times marks patterns verdicts netlists test said made is nets tests says counted same = record {
  net = ap (λ (v : Text). v.items) is.net ∙ nets.net;
  scan = ap (λ (v : Text). v.items) is.scan ∙ (nets.scan ∙ ap canonical same);
  stil = subst (λ (v : Text). IsTestText n holds chains patterns v.items) (sym is.stil) tests.stil;
  certificate = ap (λ (v : Text). v.items) is.certificate ∙ tests.certificate;
  small = tests.small;
  report = is.text ∙ ap report_text (sym is.said);
  is_report = subst IsReport (sym is.said) is.is_report;
  said = subst (λ (r : Report). IsSaid n chains holds classes limit marks patterns verdicts r) (sym is.said) says;
  counted = subst (λ (r : Report). AreTimes n patterns times r.times) (sym is.said) counted;
}

pub finished : (n m : Netlist) (holds : Holds) (refutes : Bool) (plan : RunPlan) (w : Wanted) (chains : List (List ℕ)) (s : Subject) (marks lent : List Bool) (patterns : List Pattern)
    (verdicts : List Verdict) (made : RunFiles) → MayMake n holds plan w → IsSubjectOf m s
    → AreSearched n holds plan.limit refutes plan.times plan.percent s.classes marks w.first.items patterns verdicts
    → IsWritten m holds chains s.classes plan.limit plan.times lent patterns verdicts made → chains ≡ design_chains m plan.chains → m ≡ n → marks ≡ w.faults.items → lent ≡ w.faults.items
    → IsFinished n holds refutes plan w made
finished n m holds refutes plan w chains s marks lent patterns verdicts made may subject searched written dealt same marks_are lent_are = record {
  classes = s.classes;
  patterns = patterns;
  verdicts = verdicts;
  run = record {
    some = may.some;
    limit_is = (may.ready.limit, may.limit);
    held = may.ready.held;
    size = may.faults;
    are_classes = subst (λ (k : Netlist). AreClasses k s.classes) same subject.classes;
    searched =
        subst (λ (ms : List Bool). AreSearched n holds plan.limit refutes plan.times plan.percent s.classes ms w.first.items patterns verdicts) marks_are searched;
    written = subst (λ (ms : List Bool). IsWritten n holds (design_chains n plan.chains) s.classes plan.limit plan.times ms patterns verdicts made) lent_are
        (subst (λ (k : Netlist). IsWritten k holds (design_chains k plan.chains) s.classes plan.limit plan.times lent patterns verdicts made) same
        (subst (λ (cs : List (List ℕ)). IsWritten m holds cs s.classes plan.limit plan.times lent patterns verdicts made) dealt written));
  };
}
