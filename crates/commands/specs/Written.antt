-- Several files, written in order.
use Rattle.std.specs.Prelude.{◌≡◌, ◌++◌, ℕ, List, [], ◌∷◌, Option, Some, if◌then◌else◌, take}
use Rattle.std.specs.List.{slice_get}
use Rattle.std.specs.Str.{bytes_eq}
use Rattle.statement.specs.Benches.{Text}
use Rattle.outside.specs.Shelf.{Files}
use Rattle.outside.specs.Told.{Both}

-- the files with this text under this name
abbrev pub with_file : Files → Text × Text → Files
with_file files p = λ other. if bytes_eq p.0 other then Some p.1 else files other

-- the files after these texts are written under these names, the first first
abbrev pub with_files : Files → List (Text × Text) → Files
with_files files [] = files
with_files files (p ∷ ps) = with_files (with_file files p) ps

-- these are written, and every other name has what it had
abbrev pub AreWritten : List (Text × Text) → Files → Files → Type 0
AreWritten written old new = (name : Text) → new name ≡ with_files old written name

-- the same of files that may not be told; where there is nothing to write, nothing is changed
abbrev pub LeavesFiles : List (Text × Text) → Option Files → Option Files → Type 0
LeavesFiles [] a b = b ≡ a
LeavesFiles (p ∷ ps) a b = Both a b (AreWritten (p ∷ ps))

-- Those before one of them are written, that one's name has a prefix of its text, and every other name has what it had.
pub record AreWrittenUpTo (all : List (Text × Text)) (name : Text) (old new : Files) : Type 0 where
  pub place : ℕ
  pub text : Text
  pub kept : ℕ
  pub here : slice_get all place ≡ Some (name, text)
  pub written : AreWritten (take place all ++ (name, take kept text) ∷ []) old new

-- the first of them are written, each whole, and every other name has what it had
abbrev pub AreFirstWritten : List (Text × Text) → Files → Files → Type 0
AreFirstWritten all old new = (count : ℕ) × AreWritten (take count all) old new
