-- The first line of a report, and the lines behind the shares.
use Rattle.std.specs.Prelude.{if◌then◌else◌, ℕ, ◌≡◌, ◌++◌, Bool, true, false, List, [], ◌∷◌, codes}
use Rattle.std.specs.List.{All, flat_map}
use Rattle.statement.specs.Reports.{Line, fault_line}
use Rattle.report.specs.declared.models.FaultModel.TheVariants.{Transition}
use Rattle.report.specs.Reports.{Hold, IsLineBy}
use Rattle.report.specs.Texts.{hold_line}
use Rattle.report.specs.inner.Lines.{IsHold}

abbrev pub any_held : List Hold → Bool
any_held [] = false
any_held (h ∷ hs) = true

-- whether inputs are held
abbrev pub head_line : Bool → List ℕ
head_line held = if held then codes "atpg transition 2\n" else codes "atpg transition 1\n"

abbrev pub tables_text : List Hold → List Line → List ℕ
tables_text hs ls = flat_map hold_line hs ++ flat_map fault_line ls

-- a report can say so whose first line says whether inputs are held
pub record AreTables (held : Bool) (hs : List Hold) (ls : List Line) : Type 0 where
  pub holds : All IsHold hs
  pub lines : All (IsLineBy Transition) ls
  pub told : any_held hs ≡ held
