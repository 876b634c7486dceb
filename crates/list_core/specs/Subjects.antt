-- What a list of faults is about, and what is said of it.
use Rattle.std.specs.Prelude.{ℕ, ◌≡◌, Bool, List, length, Some}
use Rattle.std.specs.List.{All, slice_get}
use Rattle.statement.specs.declared.lines.Fault.{Fault}
use Rattle.statement.specs.declared.lines.Point.{Point}
use Rattle.netlist.specs.Lines.{IsLineOf}
use Rattle.statement.specs.Netlists.{Netlist}
use Rattle.statement.specs.Patterns.{Holds, Detects, Pattern}
use Rattle.evidence.specs.declared.kinds.Evidence.{Evidence}
use Rattle.evidence.specs.Evidence.{Shows, MayBe}

-- a netlist, one fault for each class, how many closed ends a search may make, the inputs that are held, and whether evidence may be a refutation
pub record Subject : Type 0 where
  pub netlist : Netlist
  pub faults : List Fault
  pub limit : ℕ
  pub holds : Holds
  pub refutes : Bool

abbrev pub class_count : Subject → ℕ
class_count j = length j.faults

-- each fault stands on a line of the netlist
abbrev pub HaveLines : Subject → Type 0
HaveLines j = All (λ (f : Fault). IsLineOf j.netlist f.line) j.faults

-- the fault is the class's
abbrev pub RepresentsIn : Subject → ℕ → Fault → Type 0
RepresentsIn j class fault = slice_get j.faults class ≡ Some fault

-- the pattern at this place detects the class's fault at the point
pub record DetectsClass (j : Subject) (patterns : List Pattern) (class place : ℕ) (point : Point) : Type 0 where
  pub fault : Fault
  pub represents : RepresentsIn j class fault
  pub pattern : Pattern
  pub at : slice_get patterns place ≡ Some pattern
  pub detects : Detects j.netlist fault pattern.inputs pattern.cells point

-- the evidence is of the class's fault, and a refutation only where there may be one
pub record ShowsClass (j : Subject) (class : ℕ) (evidence : Evidence) : Type 0 where
  pub fault : Fault
  pub represents : RepresentsIn j class fault
  pub shows : Shows fault j.netlist j.holds evidence
  pub kind : MayBe j.refutes evidence
