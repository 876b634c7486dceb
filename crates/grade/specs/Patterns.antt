-- What patterns tell of a stuck line.
use Rattle.std.specs.Prelude.{ℕ, ◌≡◌, List, Some, None}
use Rattle.statement.specs.declared.lines.Fault.{Fault}
use Rattle.statement.specs.declared.lines.Point.{Point}
use Rattle.statement.specs.Netlists.{Netlist}
use Rattle.statement.specs.Patterns.{IsDetectedAt, Pattern}
use Rattle.statement.specs.Tests.{IsStrobedAt}
use Rattle.netlist.specs.Designs.{IsDesign}
use Rattle.statement.specs.Faults.{universe_of}
use Rattle.fault_collapse.specs.Classes.{AreClasses}
use Rattle.fault_collapse.specs.Numbers.{Classes}
use Rattle.scan_insert.specs.Scanned.{AreChainsOf, Insertion, insertion_of}
use Rattle.chain_test.specs.FirstWrong.{IsFirstPlace}
use Rattle.grade.specs.declared.grade.Grade.{Grade}
use Rattle.grade.specs.declared.grade.Grade.TheVariants.{Detected, Undetected, Unknown}
use Rattle.grade.specs.declared.spreading.GradedDesign.{GradedDesign}

-- in this cycle and at this output a point is strobed at which a pattern detects the fault
pub record IsDetectingStrobe (n : Netlist) (chains : List (List ℕ)) (patterns : List Pattern) (f : Fault) (c o : ℕ) : Type 0 where
  pub place : ℕ
  pub point : Point
  pub detected : IsDetectedAt n patterns f place point
  pub strobed : IsStrobedAt n chains place point c o

-- the grade of a fault by patterns: the first such strobe, or undetected where there is none
abbrev pub IsPatternGrade : Netlist → List (List ℕ) → List Pattern → Fault → Grade → Type 0
IsPatternGrade n chains patterns f (Detected c o) = IsFirstPlace (IsDetectingStrobe n chains patterns f) (Some (c, o))
IsPatternGrade n chains patterns f Undetected = IsFirstPlace (IsDetectingStrobe n chains patterns f) None
IsPatternGrade n chains patterns f Unknown = ⊥

-- a design and its chains, what insertion makes of them, the design's faults, and their classes
pub record IsDesignScanned (n : Netlist) (chains : List (List ℕ)) (scanned : Insertion) (faults : List Fault) (classes : Classes) : Type 0 where
  pub is_design : IsDesign n
  pub are_chains : AreChainsOf n chains
  pub is_scanned : scanned ≡ insertion_of n chains
  pub are_faults : faults ≡ universe_of n
  pub are_classes : AreClasses n classes

-- the same of a design that is graded
abbrev pub IsGradedDesign : GradedDesign → Type 0
IsGradedDesign d = IsDesignScanned d.core.now d.chains.now d.scanned.now d.faults.now d.classes.now
