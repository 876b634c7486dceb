-- Reports: what is said of each fault, and the numbers above it.
use Rattle.std.specs.Prelude.{ℕ, ◌≡◌, ◌<◌, ◌≤◌, ◌^◌, ◌/◌, ◌++◌, ◌⊎◌, Bool, true, false, List, [], codes, decimal, length, IsTrue}
use Rattle.std.specs.List.{All}
use Rattle.statement.specs.Reports.{Line}
use Rattle.statement.specs.Netlists.{is_name_byte}
use Rattle.statement.specs.Faults.{value_text}
use Rattle.report.specs.declared.counts.ReportCounts.{ReportCounts}
use Rattle.statement.specs.declared.outcomes.Outcome.{Outcome}
use Rattle.statement.specs.declared.outcomes.Outcome.TheVariants.{Detected, Redundant, Aborted, Unasked}
use Rattle.report.specs.declared.models.FaultModel.{FaultModel}
use Rattle.report.specs.declared.models.FaultModel.TheVariants.{StuckAt, Transition}
use Rattle.report.specs.Counts.{AreSmallCounts}

-- an input that is held, and its bit
pub record Hold : Type 0 where
  pub name : List ℕ
  pub bit : Bool

-- How many patterns detect each fault, where no more than a most are counted. The most is 0 where nothing is counted.
pub record Times : Type 0 where
  pub most : ℕ
  pub of : List ℕ

-- The counts, two shares in hundredths of a percent, how often faults are detected, the inputs that are held, and a line for each fault.
pub record Report : Type 0 where
  pub counts : ReportCounts
  pub coverage : ℕ
  pub efficiency : ℕ
  pub times : Times
  pub holds : List Hold
  pub lines : List Line

-- a name of .bench's bytes, however long
pub record IsBenchWord (name : List ℕ) : Type 0 where
  pub some : 0 < length name
  pub bytes : All (λ b. IsTrue (is_name_byte b)) name

-- a line that is slow to leave 0 is slow to rise
abbrev pub slow_text : Bool → List ℕ
slow_text false = codes " rise"
slow_text true = codes " fall"

-- how the text of a fault ends: with the value that its line is stuck at, or is slow to leave
abbrev pub fault_end : FaultModel → Bool → List ℕ
fault_end StuckAt value = value_text value
fault_end Transition value = slow_text value

-- `stem x/0`, `out y fall`: the word of a kind of line, a name and the end
pub record IsNamedFault (model : FaultModel) (kind text : List ℕ) : Type 0 where
  pub name : List ℕ
  pub value : Bool
  pub word : IsBenchWord name
  pub text_is : text ≡ kind ++ (name ++ fault_end model value)

-- `pin z 3/1`, `pin z 3 fall`
pub record IsPinFault (model : FaultModel) (text : List ℕ) : Type 0 where
  pub name : List ℕ
  pub place : ℕ
  pub value : Bool
  pub word : IsBenchWord name
  pub small : place < 2 ^ 64
  pub text_is : text ≡ codes "pin " ++ (name ++ (codes " " ++ (decimal place ++ fault_end model value)))

-- the text of a fault on some line of some netlist
pub data IsFaultTextBy (model : FaultModel) : List ℕ → Type 0 where
  at_stem : (text : List ℕ) → IsNamedFault model (codes "stem ") text → IsFaultTextBy model text
  at_output : (text : List ℕ) → IsNamedFault model (codes "out ") text → IsFaultTextBy model text
  at_pin : (text : List ℕ) → IsPinFault model text → IsFaultTextBy model text

abbrev pub IsFaultText : List ℕ → Type 0
IsFaultText = IsFaultTextBy StuckAt

-- a pin is named exactly where the fault is detected
abbrev pub IsOutcome : Outcome → List ℕ → Type 0
IsOutcome (Detected pattern cycle) pin = (pattern < 2 ^ 64) × (cycle < 2 ^ 64) × IsBenchWord pin
IsOutcome Redundant pin = pin ≡ []
IsOutcome Aborted pin = pin ≡ []
IsOutcome Unasked pin = pin ≡ []

pub record IsLineBy (model : FaultModel) (l : Line) : Type 0 where
  pub fault : IsFaultTextBy model l.fault
  pub outcome : IsOutcome l.outcome l.pin

abbrev pub IsLine : Line → Type 0
IsLine = IsLineBy StuckAt

-- Nothing is counted, or each number to one most, which is 2 or more.
abbrev pub AreCounted : Times → Type 0
AreCounted t = ((t.most ≡ 0) × (t.of ≡ [])) ⊎ ((1 < t.most) × (t.most < 2 ^ 64) × All (λ k. k ≤ t.most) t.of)

-- what every report is
pub record IsReport (r : Report) : Type 0 where
  pub counts : AreSmallCounts r.counts
  pub coverage : r.coverage / 100 < 2 ^ 64
  pub efficiency : r.efficiency / 100 < 2 ^ 64
  pub times : AreCounted r.times
  pub holds : All (λ (h : Hold). IsBenchWord h.name) r.holds
  pub lines : All IsLine r.lines
