-- Which fault the clause on faults names where it is false.
use Rattle.std.specs.Prelude.{ℕ, ◌≡◌, ◌≢◌, ◌<◌, ◌⊎◌, List, Some, length, take}
use Rattle.std.specs.List.{slice_get}
use Rattle.std.specs.Option.{option_map_or}
use Rattle.statement.specs.Benches.{Text}
use Rattle.statement.specs.declared.lines.Fault.{Fault}
use Rattle.statement.specs.Netlists.{Netlist}
use Rattle.statement.specs.Faults.{fault_text, universe_of}
use Rattle.fault_collapse.specs.Numbers.{Classes}
use Rattle.evidence.specs.declared.kinds.Evidence.{Evidence}
use Rattle.statement.specs.Reports.{Line}
use Rattle.run_report.specs.Outcomes.{Test, AreTrueLines, IsTrueAt, left_of}
use Rattle.good_files.specs.GoodFiles.{faults_in}

-- the fault that a report names at a place of the universe, or that of the universe where the report has ended
abbrev pub named_at : List Line → ℕ → Text → Text
named_at lines place text = option_map_or (λ (l : Line). l.fault) (slice_get lines place) text

-- the first place of the universe at which the report doesn't say of its fault what is true
pub record IsFirstUntrue (t : Test) (classes : Classes) (lines : List Line) (text : Text) : Type 0 where
  pub place : ℕ
  pub fault : Fault
  pub member : slice_get (universe_of t.netlist) place ≡ Some fault
  pub before : (k : ℕ) → k < place → IsTrueAt t classes lines k
  pub untrue : ¬ IsTrueAt t classes lines place
  pub names_it : text ≡ named_at lines place (fault_text t.netlist fault)

-- all are true, and there is a further line
pub record IsFurther (t : Test) (classes : Classes) (lines : List Line) (text : Text) : Type 0 where
  pub line : Line
  pub each : (k : ℕ) → k < length (universe_of t.netlist) → IsTrueAt t classes lines k
  pub further : slice_get lines (length (universe_of t.netlist)) ≡ Some line
  pub names_it : text ≡ line.fault

-- The first evidence of a certificate that isn't, in order, that of one of these faults.
pub record IsFirstStray (n : Netlist) (evidence : List (Fault × Evidence)) (left : List Fault) (text : Text) : Type 0 where
  pub place : ℕ
  pub fault : Fault
  pub at : slice_get (faults_in evidence) place ≡ Some fault
  pub before : take place (faults_in evidence) ≡ take place left
  pub stray : slice_get left place ≢ Some fault
  pub names_it : text ≡ fault_text n fault

-- the lines are true, but the certificate isn't that of the classes of which a line says redundant or aborted, in order
pub record IsStray (t : Test) (classes : Classes) (lines : List Line) (text : Text) : Type 0 where
  pub lines_true : AreTrueLines t classes lines
  pub first : IsFirstStray t.netlist t.evidence (left_of classes lines) text

-- the fault that is named, in this order
abbrev pub IsFalseFault : Test → Classes → List Line → Text → Type 0
IsFalseFault t classes lines text = IsFirstUntrue t classes lines text ⊎ (IsFurther t classes lines text ⊎ IsStray t classes lines text)
