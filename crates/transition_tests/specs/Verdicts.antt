-- What comes of each transition fault, with its evidence, and which patterns are kept.
use Rattle.std.specs.Prelude.{ℕ, ◌≡◌, ◌≤◌, ◌<◌, ⊤, Bool, List, length, Option, Some, None}
use Rattle.std.specs.List.{All, AllZip, Contains}
use Rattle.statement.specs.declared.lines.Fault.{Fault}
use Rattle.statement.specs.declared.lines.Point.{Point}
use Rattle.statement.specs.Netlists.{Netlist}
use Rattle.statement.specs.Patterns.{Holds, Pattern}
use Rattle.cubes.specs.Cubes.{IsPatternOf}
use Rattle.statement.specs.Faults.{universe_of}
use Rattle.redundancy_cert.specs.Trees.{closed_count, open_count}
use Rattle.evidence.specs.Evidence.{MayBe, open_ends}
use Rattle.evidence.specs.declared.engine.Found.{Found}
use Rattle.transition.specs.Searches.{HasFrameEvidence}
use Rattle.transition_sim.specs.Detections.{IsDetected, IsLastTransition, LastTransition}
use Rattle.transition_sim.specs.Shown.{FitsFrames, ShowsFrames}
use Rattle.transition_tests.specs.declared.verdicts.TransitionVerdict.{TransitionVerdict}
use Rattle.transition_tests.specs.declared.verdicts.TransitionVerdict.TheVariants.{Detected, Redundant, Aborted}

-- Detected: by the last pattern that detects the transition fault, at its first point. Else no pattern does, and there is evidence on the two
-- frames with these inputs held: what leaves nothing open, or a tree that does, with as many closed ends as the backtrack limit.
abbrev pub IsVerdict : Netlist → Holds → ℕ → List Pattern → Fault → TransitionVerdict → Type 0
IsVerdict n holds limit patterns f (Detected place point) = IsLastTransition n patterns f place point
IsVerdict n holds limit patterns f (Redundant e) = LastTransition n patterns f None × ShowsFrames n holds f e × (open_ends e ≡ 0)
IsVerdict n holds limit patterns f (Aborted tree) =
    LastTransition n patterns f None × FitsFrames n holds f tree × (closed_count tree ≡ limit) × (1 ≤ open_count tree)

-- what the search of a fault answered, or without a search that some pattern of the batch detects it
abbrev pub IsKnown : Netlist → Holds → ℕ → Bool → List Pattern → Fault → Option Found → Type 0
IsKnown n holds limit refutes batch f (Some found) = HasFrameEvidence n holds limit refutes f found
IsKnown n holds limit refutes batch f None = IsDetected n batch f

-- the same of each transition fault, in order
abbrev pub AreKnown : Netlist → Holds → ℕ → Bool → List Pattern → List (Option Found) → Type 0
AreKnown n holds limit refutes batch found = AllZip (IsKnown n holds limit refutes batch) (universe_of n) found

-- a refutation only where refutations are given
abbrev pub MayHave : Bool → TransitionVerdict → Type 0
MayHave refutes (Detected place point) = ⊤
MayHave refutes (Redundant e) = MayBe refutes e
MayHave refutes (Aborted tree) = ⊤

-- the pattern at this place is the last to detect one of these transition faults
abbrev pub IsNeededForTransitions : Netlist → List Fault → List Pattern → ℕ → Type 0
IsNeededForTransitions n faults patterns place = (f : Fault) × Contains faults f × ((point : Point) × IsLastTransition n patterns f place point)

-- Patterns of the netlist that obey the held inputs, each of which is needed, and a verdict for each transition fault, in order.
pub record AreTests (n : Netlist) (holds : Holds) (limit : ℕ) (patterns : List Pattern) (verdicts : List TransitionVerdict) : Type 0 where
  pub obey : All (IsPatternOf n holds) patterns
  pub needed : (place : ℕ) → place < length patterns → IsNeededForTransitions n (universe_of n) patterns place
  pub each : AllZip (IsVerdict n holds limit patterns) (universe_of n) verdicts
