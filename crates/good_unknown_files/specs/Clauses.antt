-- Which fault the clause on faults names where it is false.
use Rattle.std.specs.Prelude.{ℕ, ◌≡◌, ◌≢◌, ◌⊎◌, List, Some, length, take}
use Rattle.std.specs.List.{slice_get}
use Rattle.statement.specs.declared.lines.Fault.{Fault}
use Rattle.statement.specs.Benches.{Text}
use Rattle.statement.specs.Faults.{fault_text, universe_of}
use Rattle.statement.specs.Netlists.{Netlist}
use Rattle.good_files.specs.Clauses.{IsFirstStray}
use Rattle.good_unknown_files.specs.GoodUnknownFiles.{IsUnknownTested, UnknownContents, evident_in, lines_due}

-- the first place of the universe at which the report's line isn't the one that is due, or where it has ended
pub record IsFirstOther (n : Netlist) (due lines : List Text) (text : Text) : Type 0 where
  pub place : ℕ
  pub fault : Fault
  pub member : slice_get (universe_of n) place ≡ Some fault
  pub before : take place lines ≡ take place due
  pub other : slice_get lines place ≢ slice_get due place
  pub names_it : text ≡ fault_text n fault

-- all are those that are due, and there is a further line
pub record IsFurtherLine (due lines : List Text) (text : Text) : Type 0 where
  pub before : take (length due) lines ≡ due
  pub further : slice_get lines (length due) ≡ Some text

-- the lines are those that are due, but the certificate has evidence that isn't, in order, that of a class that has some
pub record IsStrayEvidence (c : UnknownContents) (t : IsUnknownTested c) (text : Text) : Type 0 where
  pub lines : c.said.lines ≡ lines_due c t
  pub first : IsFirstStray c.netlist c.evidence (evident_in c t) text

-- the fault that is named, in this order
abbrev pub IsFalseClaim : (c : UnknownContents) → IsUnknownTested c → Text → Type 0
IsFalseClaim c t text =
    IsFirstOther c.netlist (lines_due c t) c.said.lines text ⊎ (IsFurtherLine (lines_due c t) c.said.lines text ⊎ IsStrayEvidence c t text)
