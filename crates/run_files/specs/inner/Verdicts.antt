-- Verdicts of classes, each by its fault.
use Rattle.std.specs.Prelude.{ℕ, ◌≡◌, ◌≤◌, ⊤, Bool, true, false, List, [], ◌∷◌, ◌++◌, length, Some}
use Rattle.std.specs.List.{All, slice_get}
use Rattle.statement.specs.declared.lines.Fault.{Fault}
use Rattle.statement.specs.Netlists.{Netlist}
use Rattle.statement.specs.Patterns.{Holds, Pattern, IsLastDetected}
use Rattle.cubes.specs.Cubes.{IsPatternOf}
use Rattle.redundancy_cert.specs.Trees.{closed_count, open_count}
use Rattle.redundancy_cert.specs.Fits.{Fits}
use Rattle.evidence.specs.declared.kinds.Evidence.{Evidence}
use Rattle.evidence.specs.declared.kinds.Evidence.TheVariants.{Tree}
use Rattle.evidence.specs.Evidence.{MayBe, Shows, open_ends}
use Rattle.word_sim.specs.Hits.{IsNeverDetected}
use Rattle.list_core.specs.declared.verdicts.Verdict.{Verdict}
use Rattle.list_core.specs.declared.verdicts.Verdict.TheVariants.{Open, Detected, Redundant, Aborted}
use Rattle.list_core.specs.Verdicts.{verdict_at}
use Rattle.run_report.specs.Strobes.{IsPointOf}

-- Detected: by the last pattern that detects the fault, at its first point. Redundant or Aborted: no pattern does, and there is evidence of the fault:
-- what leaves nothing open, or a tree that does, with as many closed ends as the limit. Open says nothing.
abbrev pub IsVerdict : Netlist → Holds → ℕ → List Pattern → Fault → Verdict → Type 0
IsVerdict n holds limit patterns f Open = ⊤
IsVerdict n holds limit patterns f (Detected place point) = IsLastDetected n patterns f place point
IsVerdict n holds limit patterns f (Redundant e) = IsNeverDetected n patterns f × Shows f n holds e × (open_ends e ≡ 0)
IsVerdict n holds limit patterns f (Aborted tree) = IsNeverDetected n patterns f × Fits f n holds tree × (closed_count tree ≡ limit) × (1 ≤ open_count tree)

-- one for each fault; all patterns are of the netlist
pub record AreVerdicts (n : Netlist) (holds : Holds) (faults : List Fault) (limit : ℕ) (patterns : List Pattern) (verdicts : List Verdict) : Type 0 where
  pub count : length verdicts ≡ length faults
  pub obey : All (IsPatternOf n holds) patterns
  pub each : (class : ℕ) (f : Fault) → slice_get faults class ≡ Some f → IsVerdict n holds limit patterns f (verdict_at verdicts class)

-- the evidence of a class
abbrev pub leaf_at : Fault → Verdict → List (Fault × Evidence)
leaf_at f Open = []
leaf_at f (Detected place point) = []
leaf_at f (Redundant e) = (f, e) ∷ []
leaf_at f (Aborted tree) = (f, Tree tree) ∷ []

-- the evidence of all classes that have it, each beside its representative, in order
abbrev pub leaves_of : List Fault → List Verdict → List (Fault × Evidence)
leaves_of [] verdicts = []
leaves_of (f ∷ fs) [] = []
leaves_of (f ∷ fs) (v ∷ vs) = leaf_at f v ++ leaves_of fs vs

-- its point is one of the netlist
abbrev pub IsInside : Netlist → Verdict → Type 0
IsInside n Open = ⊤
IsInside n (Detected place point) = IsPointOf n point
IsInside n (Redundant e) = ⊤
IsInside n (Aborted tree) = ⊤

-- a refutation only where refutations are given
abbrev pub MayHave : Bool → Verdict → Type 0
MayHave refutes Open = ⊤
MayHave refutes (Detected place point) = ⊤
MayHave refutes (Redundant e) = MayBe refutes e
MayHave refutes (Aborted tree) = ⊤

abbrev pub is_redundant : Verdict → Bool
is_redundant Open = false
is_redundant (Detected place point) = false
is_redundant (Redundant e) = true
is_redundant (Aborted tree) = false
