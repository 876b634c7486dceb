-- What `faults` prints of a design.
use Rattle.std.specs.Prelude.{ℕ, ◌≡◌, ◌++◌, List, length, codes, decimal}
use Rattle.std.specs.List.{flat_map, zip}
use Rattle.statement.specs.declared.lines.Fault.{Fault}
use Rattle.statement.specs.Netlists.{Netlist}
use Rattle.statement.specs.Faults.{universe_of, fault_text}
use Rattle.fault_collapse.specs.Classes.{AreClasses}
use Rattle.fault_collapse.specs.Numbers.{Classes}

-- `faults 34 classes 22`
abbrev pub counts_line : ℕ → ℕ → List ℕ
counts_line faults classes = codes "faults " ++ (decimal faults ++ (codes " classes " ++ (decimal classes ++ codes "\n")))

-- `pin x 0/1 class 3`
abbrev pub listed_fault_line : Netlist → Fault → ℕ → List ℕ
listed_fault_line n fault class = fault_text n fault ++ (codes " class " ++ (decimal class ++ codes "\n"))

-- a line for each fault, with the number of its class
abbrev pub fault_lines : Netlist → List Fault → List ℕ → List ℕ
fault_lines n faults numbers = flat_map (λ p. listed_fault_line n p.0 p.1) (zip faults numbers)

-- how many faults and classes the design has, and then its faults in order, by their classes
pub record IsFaultList (n : Netlist) (text : List ℕ) : Type 0 where
  pub classes : Classes
  pub are : AreClasses n classes
  pub text_is : text ≡ counts_line (length (universe_of n)) (length classes.representatives) ++ fault_lines n (universe_of n) classes.numbers
