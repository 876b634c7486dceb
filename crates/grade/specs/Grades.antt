-- What a test tells of a stuck line. (Potentially detected faults are those of which nothing is known: Bushnell and Agrawal, Essentials of Electronic Testing.)
use Rattle.std.specs.Prelude.{ℕ, ◌≡◌, Bool, List, Some, None}
use Rattle.std.specs.List.{AllZip}
use Rattle.statement.specs.declared.kinds.Tri.{Tri}
use Rattle.statement.specs.declared.kinds.Tri.TheVariants.{X}
use Rattle.statement.specs.declared.lines.Fault.{Fault}
use Rattle.statement.specs.Netlists.{Netlist}
use Rattle.statement.specs.Values.{known}
use Rattle.statement.specs.Runs.{Cycle, strobe_at, shown_at}
use Rattle.scan_insert.specs.Scanned.{Insertion}
use Rattle.scan_play.specs.Passing.{IsWrong}
use Rattle.scan_play.specs.Playing.{IsStrobeMet, PlayRuns}
use Rattle.chain_test.specs.FirstWrong.{IsFirstPlace}
use Rattle.chain_test.specs.Hardware.{at_site}
use Rattle.grade.specs.declared.grade.Grade.{Grade}
use Rattle.grade.specs.declared.grade.Grade.TheVariants.{Detected, Undetected, Unknown}

-- some strobe is of a bit, and X is shown there
pub record HasUnknown (cycles : List Cycle) (shown : List (List Tri)) : Type 0 where
  pub cycle : ℕ
  pub output : ℕ
  pub bit : Bool
  pub strobe : strobe_at cycles cycle output ≡ known bit
  pub is_shown : shown_at shown cycle output ≡ Some X

-- Detected: the first strobe at which the other bit is shown, those passed over at which X is. Undetected: each strobe of a bit meets that bit.
-- Unknown: neither; at no strobe the other bit is shown, and at some X is.
abbrev pub IsGradeOf : List Cycle → List (List Tri) → Grade → Type 0
IsGradeOf cycles shown (Detected c o) = IsFirstPlace (IsWrong known cycles shown) (Some (c, o))
IsGradeOf cycles shown Undetected = (c o : ℕ) → IsStrobeMet cycles shown c o
IsGradeOf cycles shown Unknown = IsFirstPlace (IsWrong known cycles shown) None × HasUnknown cycles shown

-- the grade of a fault: that of the three-valued run with it
pub record IsGraded (s : Netlist) (g : Fault) (cycles : List Cycle) (grade : Grade) : Type 0 where
  pub shown : List (List Tri)
  pub runs : PlayRuns s (Some g) cycles shown
  pub told : IsGradeOf cycles shown grade

-- of each fault of a design the grade at its site
abbrev pub AreGrades : Insertion → List Fault → List Cycle → List Grade → Type 0
AreGrades scanned faults cycles grades = AllZip (λ f grade. IsGraded scanned.netlist (at_site scanned.sites f) cycles grade) faults grades
