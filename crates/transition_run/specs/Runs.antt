-- What a run makes of a design's transition faults.
use Rattle.std.specs.Prelude.{ℕ, ◌≡◌, ◌<◌, Bool, IsFalse, List, length}
use Rattle.statement.specs.declared.lines.Fault.{Fault}
use Rattle.statement.specs.Netlists.{Netlist}
use Rattle.statement.specs.Patterns.{Holds}
use Rattle.statement.specs.Benches.{canonical}
use Rattle.statement.specs.Stils.{StilFile}
use Rattle.statement.specs.Statement.{FiveFiles}
use Rattle.statement.specs.Faults.{universe_of}
use Rattle.evidence.specs.declared.kinds.Evidence.{Evidence}
use Rattle.good_files.specs.ScanOff.{design_chains}
use Rattle.transition_tests.specs.Verdicts.{IsNeededForTransitions}
use Rattle.good_slow_files.specs.GoodSlowFiles.{AreGoodSlowFiles, SlowContents, slow_chains_said, slow_limit_said}
use Rattle.good_slow_files.specs.Theorem.{TransitionTheorem}
use Rattle.transition_run.specs.declared.files.TransitionFiles.{TransitionFiles}
use Rattle.transition_run.specs.TreeTheorem.{TransitionTreeTheorem}

abbrev pub transition_files_of : TransitionFiles → FiveFiles
transition_files_of f = record { net = f.net.items; scan = f.scan.items; stil = f.stil.items; certificate = f.certificate.items; report = f.report.items }

-- what they stand for, by this netlist, STIL file and evidence; the report is at hand
abbrev pub slow_contents_of : Netlist → StilFile → List (Fault × Evidence) → TransitionFiles → SlowContents
slow_contents_of n file evidence f = record { netlist = n; scan = f.scan.items; file = file; evidence = evidence; said = f.said }

-- The five texts are good files of slow lines, the netlist's in its canonical text, for these held inputs, chains and limit, so that what they say comes
-- true; each of their patterns is the last to detect some slow line. Where nothing is refuted, their certificate has trees alone.
pub record IsTransitionRun (n : Netlist) (holds : Holds) (asked limit : ℕ) (refutes : Bool) (made : TransitionFiles) : Type 0 where
  pub file : StilFile
  pub evidence : List (Fault × Evidence)
  pub net_is : made.net.items ≡ canonical n
  pub good : AreGoodSlowFiles (transition_files_of made) (slow_contents_of n file evidence made)
  pub holds_are : good.tested.holds ≡ holds
  pub chains_are : design_chains n (slow_chains_said made.said) ≡ design_chains n asked
  pub limit_is : slow_limit_said made.said ≡ limit
  pub needed : (place : ℕ) → place < length good.tested.patterns → IsNeededForTransitions n (universe_of n) good.tested.patterns place
  pub truth : TransitionTheorem n holds (design_chains n asked) limit refutes (transition_files_of made)
  pub trees : IsFalse refutes → TransitionTreeTheorem n holds (design_chains n asked) limit (transition_files_of made)
