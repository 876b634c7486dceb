-- What a report says of transition faults, by their verdicts, and the evidence that a certificate has of them.
use Rattle.std.specs.Prelude.{ℕ, ◌≡◌, ⊤, List, [], ◌∷◌, ◌++◌}
use Rattle.std.specs.List.{AllZip, zip}
use Rattle.statement.specs.declared.lines.Fault.{Fault}
use Rattle.statement.specs.Netlists.{Netlist}
use Rattle.evidence.specs.declared.kinds.Evidence.{Evidence}
use Rattle.evidence.specs.declared.kinds.Evidence.TheVariants.{Tree}
use Rattle.statement.specs.declared.outcomes.Outcome.{Outcome}
use Rattle.statement.specs.declared.outcomes.Outcome.TheVariants as outcome
use Rattle.report.specs.declared.models.FaultModel.TheVariants.{Transition}
use Rattle.report.specs.Reports.{IsLineBy}
use Rattle.statement.specs.Reports.{Line}
use Rattle.run_report.specs.Strobes.{IsPointOf}
use Rattle.transition_tests.specs.declared.verdicts.TransitionVerdict.{TransitionVerdict}
use Rattle.transition_tests.specs.declared.verdicts.TransitionVerdict.TheVariants.{Detected, Redundant, Aborted}
use Rattle.transition_report.specs.Strobes.{IsLaunchSeenAt}
use Rattle.transition_report.specs.Texts.{transition_text}

-- The pattern's place, and where the tester sees the point; or that no pattern detects it, by evidence that leaves nothing open or by a tree that does.
abbrev pub IsOutcomeOf : Netlist → List (List ℕ) → TransitionVerdict → Outcome → List ℕ → Type 0
IsOutcomeOf n chains (Detected place point) o pin =
    (cycle : ℕ) × (o ≡ outcome.Detected place cycle) × IsLaunchSeenAt n chains place point cycle pin
IsOutcomeOf n chains (Redundant e) o pin = (o ≡ outcome.Redundant) × (pin ≡ [])
IsOutcomeOf n chains (Aborted tree) o pin = (o ≡ outcome.Aborted) × (pin ≡ [])

-- the line of a fault with this verdict, as a report of slow lines may have it
pub record IsVerdictLine (n : Netlist) (chains : List (List ℕ)) (p : Fault × TransitionVerdict) (l : Line) : Type 0 where
  pub names_it : l.fault ≡ transition_text n p.0
  pub outcome : IsOutcomeOf n chains p.1 l.outcome l.pin
  pub formed : IsLineBy Transition l

-- the lines of these faults, by their verdicts, in order
abbrev pub AreLines : Netlist → List (List ℕ) → List Fault → List TransitionVerdict → List Line → Type 0
AreLines n chains faults verdicts lines = AllZip (IsVerdictLine n chains) (zip faults verdicts) lines

-- the point of a verdict is one of the netlist
abbrev pub IsInside : Netlist → TransitionVerdict → Type 0
IsInside n (Detected place point) = IsPointOf n point
IsInside n (Redundant e) = ⊤
IsInside n (Aborted tree) = ⊤

-- the evidence of a fault that no pattern detects
abbrev pub leaf_at : Fault → TransitionVerdict → List (Fault × Evidence)
leaf_at f (Detected place point) = []
leaf_at f (Redundant e) = (f, e) ∷ []
leaf_at f (Aborted tree) = (f, Tree tree) ∷ []

-- the evidence of all such faults, each beside its fault, in order
abbrev pub leaves_of : List Fault → List TransitionVerdict → List (Fault × Evidence)
leaves_of [] verdicts = []
leaves_of (f ∷ fs) [] = []
leaves_of (f ∷ fs) (v ∷ vs) = leaf_at f v ++ leaves_of fs vs
