-- The inputs that are held by their names, and what commands that search write and show.
use Rattle.std.specs.Prelude.{ℕ, zero, suc, ◌≡◌, ◌<◌, ◌++◌, List, [], ◌∷◌, Some, codes, decimal, slice_set}
use Rattle.std.specs.List.{slice_get}
use Rattle.statement.specs.Benches.{Text}
use Rattle.statement.specs.Netlists.{Netlist, name_of}
use Rattle.statement.specs.Patterns.{Holds}
use Rattle.statement.specs.Statement.{FiveFiles}
use Rattle.report.specs.declared.counts.ReportCounts.{ReportCounts}
use Rattle.command_line.specs.HoldLists.{HoldItem}

-- ---- held inputs by name

-- the input at this place has the name
abbrev pub IsInputAt : Netlist → ℕ → Text → Type 0
IsInputAt n k name = (x : ℕ) × (slice_get n.inputs k ≡ Some x) × (name_of n x ≡ name)

-- one after the other the input of each name is held at its bit
abbrev pub AreHeldFrom : Netlist → Holds → List HoldItem → Holds → Type 0
AreHeldFrom n holds [] held = held ≡ holds
AreHeldFrom n holds (h ∷ named) held = (k : ℕ) × IsInputAt n k h.0 × AreHeldFrom n (slice_set holds k (Some h.1)) named held

-- the first that names no input stands at this place
pub record IsFirstUnknown (n : Netlist) (named : List HoldItem) (place : ℕ) : Type 0 where
  pub hold : HoldItem
  pub at : slice_get named place ≡ Some hold
  pub unknown : (k : ℕ) → ¬ IsInputAt n k hold.0
  pub before : (j : ℕ) (h : HoldItem) → j < place → slice_get named j ≡ Some h → (k : ℕ) × IsInputAt n k h.0

-- ---- what is written and shown

-- the five texts, in the order in which they are written
abbrev pub texts_in : FiveFiles → List Text
texts_in files = files.net ∷ files.scan ∷ files.stil ∷ files.certificate ∷ files.report ∷ []

-- ` unasked 7`, where there is one
abbrev pub unasked_words : ℕ → Text
unasked_words zero = []
unasked_words (suc k) = codes " unasked " ++ decimal (suc k)

-- `faults 34 detected 34 redundant 0 aborted 0 patterns 9 cycles 9`, by the counts of a report
abbrev pub tests_line : ReportCounts → Text
tests_line counts =
    codes "faults " ++ (decimal counts.faults ++ (codes " detected " ++ (decimal counts.detected ++ (codes " redundant " ++ (decimal counts.redundant
    ++ (codes " aborted " ++ (decimal counts.aborted ++ (unasked_words counts.unasked ++ (codes " patterns " ++ (decimal counts.patterns
    ++ (codes " cycles " ++ (decimal counts.cycles ++ codes "\n"))))))))))))
