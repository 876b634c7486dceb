-- What is known of a class of faults. (Fault coverage: detected, redundant, and aborted faults: Bushnell and Agrawal,
-- Essentials of Electronic Testing.)
use Rattle.std.specs.Prelude.{ℕ, ◌≡◌, ◌≤◌, ⊤, Bool, true, false, List, slice_index_or}
use Rattle.statement.specs.Patterns.{Pattern}
use Rattle.redundancy_cert.specs.Trees.{closed_count, open_count}
use Rattle.evidence.specs.declared.kinds.Evidence.TheVariants.{Tree}
use Rattle.evidence.specs.Evidence.{open_ends}
use Rattle.list_core.specs.declared.verdicts.Verdict.{Verdict}
use Rattle.list_core.specs.declared.verdicts.Verdict.TheVariants.{Open, Detected, Redundant, Aborted}
use Rattle.list_core.specs.Subjects.{Subject, DetectsClass, ShowsClass}

-- The verdict is true of the class: a pattern detects it; or there is evidence that leaves nothing open;
-- or a tree that leaves an end open and has as many closed ends as the backtrack limit.
abbrev pub VerdictHolds : Subject → List Pattern → ℕ → Verdict → Type 0
VerdictHolds j patterns class Open = ⊤
VerdictHolds j patterns class (Detected place point) = DetectsClass j patterns class place point
VerdictHolds j patterns class (Redundant evidence) = ShowsClass j class evidence × (open_ends evidence ≡ 0)
VerdictHolds j patterns class (Aborted tree) = ShowsClass j class (Tree tree) × (closed_count tree ≡ j.limit) × (1 ≤ open_count tree)

abbrev pub verdict_at : List Verdict → ℕ → Verdict
verdict_at verdicts class = slice_index_or verdicts class Open

-- every class is Open or has a verdict that holds
abbrev pub AllHold : Subject → List Pattern → List Verdict → Type 0
AllHold j patterns verdicts = (class : ℕ) → VerdictHolds j patterns class (verdict_at verdicts class)

abbrev pub is_open : Verdict → Bool
is_open Open = true
is_open (Detected place point) = false
is_open (Redundant evidence) = false
is_open (Aborted tree) = false

-- a pattern that detects the class makes it Detected
abbrev pub is_undetected : Verdict → Bool
is_undetected Open = true
is_undetected (Detected place point) = false
is_undetected (Redundant evidence) = false
is_undetected (Aborted tree) = true

-- 1 for a verdict of the kind
abbrev pub one_if_class_open : Verdict → ℕ
one_if_class_open Open = 1
one_if_class_open (Detected place point) = 0
one_if_class_open (Redundant evidence) = 0
one_if_class_open (Aborted tree) = 0

abbrev pub one_if_class_detected : Verdict → ℕ
one_if_class_detected Open = 0
one_if_class_detected (Detected place point) = 1
one_if_class_detected (Redundant evidence) = 0
one_if_class_detected (Aborted tree) = 0

abbrev pub one_if_class_redundant : Verdict → ℕ
one_if_class_redundant Open = 0
one_if_class_redundant (Detected place point) = 0
one_if_class_redundant (Redundant evidence) = 1
one_if_class_redundant (Aborted tree) = 0

abbrev pub one_if_class_aborted : Verdict → ℕ
one_if_class_aborted Open = 0
one_if_class_aborted (Detected place point) = 0
one_if_class_aborted (Redundant evidence) = 0
one_if_class_aborted (Aborted tree) = 1
