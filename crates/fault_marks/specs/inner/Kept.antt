-- Lines that are kept, each once.
use denote.Ref.{Bor}
use Rattle.std.specs.Prelude.{ℕ, ◌≡◌, ◌++◌, ◌↔◌, Bool, IsTrue, List, length, map}
use Rattle.std.specs.List.{All, AllZip, Contains}
use Rattle.statement.specs.declared.lines.Fault.{Fault}
use Rattle.statement.specs.Netlists.{Netlist}
use Rattle.statement.specs.Faults.{fault_text}
use Rattle.bench_text.specs.Bytes.{lines}
use Rattle.fault_marks.specs.Marks.{NamesFault}

-- the keys are these lines, without where they lie in memory
abbrev pub AreKept : List (Bor (List ℕ)) → List (List ℕ) → Type 0
AreKept keys kept = (line : List ℕ) → Contains (map (λ (key : Bor (List ℕ)). key.now) keys) line ↔ Contains kept line

-- so many lines of the text are read, each of which names a fault, and are kept; the others are left
pub record IsPartRead (n : Netlist) (text rest : List ℕ) (keys : List (Bor (List ℕ))) (number : ℕ) : Type 0 where
  pub read : List (List ℕ)
  pub lines_are : lines text ≡ read ++ lines rest
  pub number_is : number ≡ length read
  pub all : All (NamesFault n) read
  pub kept : AreKept keys read

-- a mark for each of these faults: whether one of the lines names it
abbrev pub AreMarked : Netlist → List (List ℕ) → List Fault → List Bool → Type 0
AreMarked n named faults marks = AllZip (λ f mark. IsTrue mark ↔ Contains named (fault_text n f)) faults marks
