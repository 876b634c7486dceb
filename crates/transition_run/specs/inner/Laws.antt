-- What is written of verdicts is a run.
use Rattle.std.specs.Prelude.{ℕ, ◌≤◌, Bool, List}
use Rattle.std.specs.List.{All}
use Rattle.plain_text.specs.Limits.{most_limit}
use Rattle.netlist.specs.Conditions.{IsSound}
use Rattle.netlist.specs.Designs.{IsDesign}
use Rattle.netlist.specs.Holds.{AreHoldsOf}
use Rattle.statement.specs.Netlists.{Netlist}
use Rattle.statement.specs.Patterns.{Holds, Pattern}
use Rattle.good_files.specs.ScanOff.{design_chains}
use Rattle.transition_tests.specs.declared.verdicts.TransitionVerdict.{TransitionVerdict}
use Rattle.transition_tests.specs.Verdicts.{AreTests, MayHave}
use Rattle.transition_run.specs.declared.files.TransitionFiles.{TransitionFiles}
use Rattle.transition_run.specs.Runs.{IsTransitionRun}
use Rattle.transition_run.specs.inner.Written.{IsWritten}

abbrev pub WrittenIsRun : Type 0
WrittenIsRun =
    (n : Netlist) (holds : Holds) (asked limit : ℕ) (refutes : Bool) (patterns : List Pattern) (verdicts : List TransitionVerdict) (made : TransitionFiles)
    → IsSound n → IsDesign n → AreHoldsOf n holds → 1 ≤ asked → (1 ≤ limit) × (limit ≤ most_limit)
    → AreTests n holds limit patterns verdicts → All (MayHave refutes) verdicts
    → IsWritten n holds (design_chains n asked) limit patterns verdicts made
    → IsTransitionRun n holds asked limit refutes made
