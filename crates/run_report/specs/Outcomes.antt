-- What a report says of faults, and when it is true. (Detected, redundant and aborted faults: Bushnell and Agrawal, Essentials of Electronic Testing.)
use Rattle.std.specs.Prelude.{ℕ, suc, ⊤, ◌≡◌, ◌≢◌, ◌≤◌, ◌<◌, ◌⊎◌, ◌==◌, ◌&&◌, ◌||◌, Bool, true, false, cond, List, [], ◌∷◌, length, Some}
use Rattle.std.specs.List.{slice_get}
use Rattle.statement.specs.declared.lines.Fault.{Fault}
use Rattle.statement.specs.declared.lines.Point.{Point}
use Rattle.statement.specs.Netlists.{Netlist}
use Rattle.statement.specs.Patterns.{Holds, Pattern, IsLastDetected}
use Rattle.scan_insert.specs.Names.{pin_name_of}
use Rattle.scan_insert.specs.Scanned.{scanned_of}
use Rattle.statement.specs.Tests.{IsStrobedAt}
use Rattle.statement.specs.Faults.{fault_text, universe_of}
use Rattle.fault_collapse.specs.Classes.{Represents}
use Rattle.fault_collapse.specs.Numbers.{Classes}
use Rattle.redundancy_cert.specs.declared.nodes.Node.{Node}
use Rattle.redundancy_cert.specs.Trees.{closed_count, open_count}
use Rattle.evidence.specs.declared.kinds.Evidence.{Evidence}
use Rattle.evidence.specs.declared.kinds.Evidence.TheVariants.{Tree}
use Rattle.evidence.specs.Evidence.{Shows, open_ends}
use Rattle.word_sim.specs.Hits.{IsNeverDetected}
use Rattle.statement.specs.declared.outcomes.Outcome.{Outcome}
use Rattle.statement.specs.declared.outcomes.Outcome.TheVariants.{Detected, Redundant, Aborted, Unasked}
use Rattle.statement.specs.Reports.{Line}

-- A test of a netlist: the inputs that are held, the scan chains, the patterns in their order,
-- how many closed ends a search might make, and the evidence that it left.
pub record Test : Type 0 where
  pub netlist : Netlist
  pub holds : Holds
  pub chains : List (List ℕ)
  pub limit : ℕ
  pub patterns : List Pattern
  pub evidence : List (Fault × Evidence)

-- the tester sees a point of this pattern in this cycle at this pin
abbrev pub IsSeenAt : Netlist → List (List ℕ) → ℕ → Point → ℕ → List ℕ → Type 0
IsSeenAt n chains place point cycle pin = (output : ℕ) × IsStrobedAt n chains place point cycle output × (pin ≡ pin_name_of (scanned_of n chains) output)

-- The last pattern that detects the fault is at this place, and its first point is seen in this cycle at this pin.
pub record IsSeen (t : Test) (f : Fault) (place cycle : ℕ) (pin : List ℕ) : Type 0 where
  pub point : Point
  pub last : IsLastDetected t.netlist t.patterns f place point
  pub seen : IsSeenAt t.netlist t.chains place point cycle pin

-- the first of this evidence that stands beside the fault
abbrev pub IsFirstOf : List (Fault × Evidence) → Fault → Evidence → Type 0
IsFirstOf [] f e = ⊥
IsFirstOf (p ∷ ps) f e = ((p.0 ≡ f) × (p.1 ≡ e)) ⊎ ((p.0 ≢ f) × IsFirstOf ps f e)

-- No pattern detects the fault, and the evidence of its representative is a tree that fits that, or steps that refute it.
pub record IsLeft (t : Test) (f representative : Fault) (e : Evidence) : Type 0 where
  pub first : IsFirstOf t.evidence representative e
  pub shows : Shows representative t.netlist t.holds e
  pub never : IsNeverDetected t.netlist t.patterns f

-- What is said of a fault is true: where it is seen; or evidence that leaves nothing open; or a tree that leaves an end open
-- and has as many closed ends as the backtrack limit. Of a fault that wasn't asked for nothing is claimed.
abbrev pub IsTrueOf : Test → Fault → Fault → Outcome → List ℕ → Type 0
IsTrueOf t f representative (Detected place cycle) pin = IsSeen t f place cycle pin
IsTrueOf t f representative Redundant pin = (e : Evidence) × IsLeft t f representative e × (open_ends e ≡ 0)
IsTrueOf t f representative Aborted pin = (tree : List Node) × IsLeft t f representative (Tree tree) × (closed_count tree ≡ t.limit) × (1 ≤ open_count tree)
IsTrueOf t f representative Unasked pin = ⊤

-- the line at a place is that of the fault at this place, and what it says is true
pub record IsTrueAt (t : Test) (classes : Classes) (lines : List Line) (place : ℕ) : Type 0 where
  pub fault : Fault
  pub class : ℕ
  pub representative : Fault
  pub line : Line
  pub member : slice_get (universe_of t.netlist) place ≡ Some fault
  pub of_class : slice_get classes.numbers place ≡ Some class
  pub represents : Represents classes class representative
  pub said : slice_get lines place ≡ Some line
  pub names_it : line.fault ≡ fault_text t.netlist fault
  pub is_true : IsTrueOf t fault representative line.outcome line.pin

-- each fault of the universe has its line, in order, what it says is true, and there is no further line
pub record AreTrueLines (t : Test) (classes : Classes) (lines : List Line) : Type 0 where
  pub each : (place : ℕ) → place < length (universe_of t.netlist) → IsTrueAt t classes lines place
  pub no_more : length lines ≡ length (universe_of t.netlist)

-- some pattern detects the fault
abbrev pub IsDetected : Netlist → List Pattern → Fault → Type 0
IsDetected n patterns f = (place : ℕ) × (point : Point) × IsLastDetected n patterns f place point

-- a line of this outcome rests on evidence
abbrev pub has_evidence : Outcome → Bool
has_evidence (Detected place cycle) = false
has_evidence Redundant = true
has_evidence Aborted = true
has_evidence Unasked = false

-- of these lines, whose faults are of these classes, one of the class is of a fault that is redundant or aborted
abbrev pub is_left : List ℕ → List Line → ℕ → Bool
is_left [] lines class = false
is_left (c ∷ cs) [] class = false
is_left (c ∷ cs) (l ∷ ls) class = ((c == class) && has_evidence l.outcome) || is_left cs ls class

-- the representatives of such classes, in order, where the first one's class is k
abbrev pub left_from : List ℕ → List Line → ℕ → List Fault → List Fault
left_from numbers lines k [] = []
left_from numbers lines k (f ∷ fs) = cond (is_left numbers lines k) (f ∷ left_from numbers lines (suc k) fs) (left_from numbers lines (suc k) fs)

abbrev pub left_of : Classes → List Line → List Fault
left_of classes lines = left_from classes.numbers lines 0 classes.representatives
