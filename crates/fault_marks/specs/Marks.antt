-- Lists of faults: texts that name some of a netlist's faults, one a line.
use Rattle.std.specs.Prelude.{ℕ, ◌≡◌, ◌+◌, ◌++◌, ◌∷◌, ◌↔◌, ⊤, Bool, IsTrue, List, length}
use Rattle.std.specs.List.{All, AllZip, Contains}
use Rattle.statement.specs.declared.lines.Fault.{Fault}
use Rattle.statement.specs.Netlists.{Netlist}
use Rattle.statement.specs.Faults.{fault_text, universe_of}
use Rattle.fault_marks.specs.declared.refusal.MarksRefusal.{MarksRefusal}
use Rattle.fault_marks.specs.declared.refusal.MarksRefusal.TheVariants.{NotFault, NoMemory}

-- the line is the text of a fault of the netlist
abbrev pub NamesFault : Netlist → List ℕ → Type 0
NamesFault n line = (f : Fault) × Contains (universe_of n) f × (fault_text n f ≡ line)

-- Each of these lines names a fault, and there is a mark for each fault of the netlist, in order: whether one of the lines names it.
pub record AreMarks (n : Netlist) (named : List (List ℕ)) (marks : List Bool) : Type 0 where
  pub all : All (NamesFault n) named
  pub each : AllZip (λ f mark. IsTrue mark ↔ Contains named (fault_text n f)) (universe_of n) marks

-- the first of these lines that names no fault, and its number, from 1
pub record IsFirstStranger (n : Netlist) (named : List (List ℕ)) (number : ℕ) (line : List ℕ) : Type 0 where
  pub before : List (List ℕ)
  pub behind : List (List ℕ)
  pub lines_are : named ≡ before ++ line ∷ behind
  pub number_is : number ≡ length before + 1
  pub stranger : ¬ (NamesFault n line)
  pub all : All (NamesFault n) before

-- why lines are refused
abbrev pub AreRefused : Netlist → List (List ℕ) → MarksRefusal → Type 0
AreRefused n named (NotFault s) = IsFirstStranger n named s.number s.line.now
AreRefused n named NoMemory = ⊤
