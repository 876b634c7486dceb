-- What is written of verdicts comes true.
use Rattle.std.specs.Prelude.{◌≡◌, ◌≤◌, ◌^◌, Bool, List, length}
use Rattle.plain_text.specs.Limits.{most_limit}
use Rattle.statement.specs.declared.lines.Fault.{Fault}
use Rattle.netlist.specs.Conditions.{IsSound}
use Rattle.netlist.specs.Designs.{IsDesign}
use Rattle.statement.specs.Netlists.{Netlist}
use Rattle.statement.specs.Patterns.{Holds, Pattern}
use Rattle.netlist.specs.Holds.{AreHoldsOf}
use Rattle.statement.specs.Faults.{universe_of}
use Rattle.statement.specs.Stils.{StilFile, stil_text}
use Rattle.fault_collapse.specs.Classes.{AreClasses}
use Rattle.fault_collapse.specs.Numbers.{Classes}
use Rattle.evidence.specs.declared.kinds.Evidence.{Evidence}
use Rattle.list_core.specs.declared.verdicts.Verdict.{Verdict}
use Rattle.good_files.specs.GoodFiles.{AreGoodFiles, chains_said, limit_said}
use Rattle.good_files.specs.ScanOff.{design_chains}
use Rattle.run_files.specs.declared.files.RunFiles.{RunFiles}
use Rattle.run_files.specs.declared.asked.RunPlan.{RunPlan}
use Rattle.run_files.specs.declared.asked.Wanted.{Wanted}
use Rattle.run_files.specs.Runs.{Asked, IsRun, asked_by, contents_of, files_of}
use Rattle.run_files.specs.inner.Plans.{AreFew, MayRun}
use Rattle.run_files.specs.inner.Searches.{AreSearched}
use Rattle.run_files.specs.inner.Written.{IsWritten}

-- what the texts are made of
pub record IsFinishedRun (n : Netlist) (a : Asked) (classes : Classes) (patterns : List Pattern) (verdicts : List Verdict) (made : RunFiles) : Type 0 where
  pub some : 1 ≤ a.chains
  pub limit_is : (1 ≤ a.limit) × (a.limit ≤ most_limit)
  pub held : AreHoldsOf n a.holds
  pub size : length a.faults ≡ length (universe_of n)
  pub are_classes : AreClasses n classes
  pub searched : AreSearched n a.holds a.limit a.refutes a.times a.percent classes a.faults a.first patterns verdicts
  pub written : IsWritten n a.holds (design_chains n a.chains) classes a.limit a.times a.faults patterns verdicts made

-- what a run of this plan rests on
pub record MayMake (n : Netlist) (holds : Holds) (plan : RunPlan) (w : Wanted) : Type 0 where
  pub design : IsDesign n
  pub ready : MayRun n holds plan
  pub some : 1 ≤ plan.chains
  pub limit : plan.limit ≤ most_limit
  pub faults : length w.faults.items ≡ length (universe_of n)
  pub first : AreFew n holds (2 ^ 27) w.first.items

-- what the files are made of
pub record IsFinished (n : Netlist) (holds : Holds) (refutes : Bool) (plan : RunPlan) (w : Wanted) (made : RunFiles) : Type 0 where
  pub classes : Classes
  pub patterns : List Pattern
  pub verdicts : List Verdict
  pub run : IsFinishedRun n (asked_by plan w holds refutes) classes patterns verdicts made

-- good files for what is asked, by these classes and patterns, the test's in its written text
pub record AreGoodFilesBy (n : Netlist) (a : Asked) (classes : Classes) (patterns : List Pattern) (made : RunFiles) : Type 0 where
  pub file : StilFile
  pub evidence : List (Fault × Evidence)
  pub good : AreGoodFiles (files_of made) (contents_of n file evidence made)
  pub stil_is : made.stil.items ≡ stil_text file
  pub holds_are : good.tested.holds ≡ a.holds
  pub chains_are : design_chains n (chains_said made.said) ≡ design_chains n a.chains
  pub limit_is : limit_said made.said ≡ a.limit
  pub patterns_are : good.tested.patterns ≡ patterns
  pub classes_are : good.tested.classes ≡ classes

abbrev pub WrittenIsGood : Type 0
WrittenIsGood =
    (n : Netlist) (a : Asked) (classes : Classes) (patterns : List Pattern) (verdicts : List Verdict) (made : RunFiles)
    → IsSound n → IsDesign n → IsFinishedRun n a classes patterns verdicts made → AreGoodFilesBy n a classes patterns made

abbrev pub WrittenIsRun : Type 0
WrittenIsRun =
    (n : Netlist) (a : Asked) (classes : Classes) (patterns : List Pattern) (verdicts : List Verdict) (made : RunFiles)
    → IsSound n → IsDesign n → IsFinishedRun n a classes patterns verdicts made → IsRun n a made
