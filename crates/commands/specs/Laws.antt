-- Each ending comes exactly where it should, but for a failed read or write and want of memory.
-- So each "only where" of the rows is "exactly where".
use Rattle.std.specs.Prelude.{◌≡◌, ⊤, List, Some}
use Rattle.statement.specs.Benches.{Text}
use Rattle.outside.specs.Causes.{Rose}
use Rattle.outside.specs.Shelf.{Files}
use Rattle.commands.specs.World.{NoneFailed, OutFailed, ShelfFailed, World}
use Rattle.commands.specs.Contents.{Whole, Missing, TooLong, contents_of}
use Rattle.commands.specs.Names.{file_name_of}
use Rattle.commands.specs.Due.{Due, Refuse, Deliver}
use Rattle.commands.specs.Rows.{CommandRow}
use Rattle.commands.specs.declared.ending.Finding.{Finding}
use Rattle.commands.specs.declared.ending.WriteFailure.TheVariants as failure
use Rattle.commands.specs.declared.ending.Ending.{Ending}
use Rattle.commands.specs.declared.ending.Ending.TheVariants as ending

-- Two things that are due of the same texts: for the same reason, or with the same finding.
abbrev pub AreAlike : {R : Type 0} → Due R → Due R → Type 0
AreAlike (Refuse r) (Refuse s) = r ≡ s
AreAlike (Deliver texts shown finding) (Deliver others also found) = finding ≡ found
AreAlike _ _ = ⊥

abbrev pub IsExclusive : {R : Type 0} → (List Text → Due R → Type 0) → Type 0
IsExclusive due = (texts : List Text) (c d : Due _) → due texts c → due texts d → AreAlike c d

abbrev pub IsMissing : {R : Type 0} → Text → Ending R → Type 0
IsMissing name (ending.Missing n) = file_name_of n ≡ name
IsMissing name _ = ⊥

abbrev pub IsTooLong : {R : Type 0} → Text → Ending R → Type 0
IsTooLong name (ending.TooLong n) = file_name_of n ≡ name
IsTooLong name _ = ⊥

abbrev pub IsRefusedFor : {R : Type 0} → R → Ending R → Type 0
IsRefusedFor r (ending.Refused s) = r ≡ s
IsRefusedFor r _ = ⊥

abbrev pub IsEnded : {R : Type 0} → Finding → Ending R → Type 0
IsEnded finding (ending.Ended found) = finding ≡ found
IsEnded finding _ = ⊥

-- it is so, or a read failed, or memory was refused
abbrev pub OrFails : {R : Type 0} → (Ending R → Type 0) → World → World → Ending R → Type 0
OrFails P a b (ending.ReadFailed n) = ShelfFailed a b
OrFails P a b ending.Memory = ⊤
OrFails P a b e = P e

-- a failed call, and whose it was
abbrev pub IsFailure : {R : Type 0} → World → World → Ending R → Type 0
IsFailure a b (ending.ReadFailed n) = ShelfFailed a b
IsFailure a b (ending.WriteFailed (failure.File n)) = ShelfFailed a b
IsFailure a b (ending.WriteFailed failure.Output) = OutFailed a b
IsFailure a b _ = ⊥

-- a call over files that are told
pub record IsCall {R : Type 0} (reads writes : List Text) (due : List Text → Due R → Type 0) (files : Files) (a b : World) (e : Ending R) : Type 0 where
  pub told : a.files ≡ Some files
  pub row : CommandRow reads writes due a b e

module _ {R : Type 0} (due : List Text → Due R → Type 0) where
  -- the first file that can't be had isn't there
  abbrev pub MissingExactly : Type 0
  MissingExactly =
      (reads writes : List Text) (files : Files) (a b : World) (e : Ending R) (name : Text) → IsCall reads writes due files a b e
      → contents_of files reads ≡ Missing name → OrFails (IsMissing name) a b e

  -- the first file that can't be had is too long
  abbrev pub TooLongExactly : Type 0
  TooLongExactly =
      (reads writes : List Text) (files : Files) (a b : World) (e : Ending R) (name : Text) → IsCall reads writes due files a b e
      → contents_of files reads ≡ TooLong name → OrFails (IsTooLong name) a b e

  -- the texts are refused
  abbrev pub RefusedExactly : Type 0
  RefusedExactly =
      (reads writes : List Text) (files : Files) (a b : World) (e : Ending R) (texts : List Text) (r : R) → IsCall reads writes due files a b e
      → contents_of files reads ≡ Whole texts → IsExclusive due → due texts (Refuse r) → OrFails (IsRefusedFor r) a b e

  -- a call of the shelf or the output failed: the command says whose
  abbrev pub FailedExactly : Type 0
  FailedExactly =
      (reads writes : List Text) (a b : World) (e : Ending R) → CommandRow reads writes due a b e → ¬ NoneFailed a b → IsFailure a b e

  -- nothing is in the way, and no count rose: the command did its work, or memory was refused
  abbrev pub NothingElse : Type 0
  NothingElse =
      (reads writes : List Text) (files : Files) (a b : World) (e : Ending R) (texts : List Text) (made : List Text) (shown : Text) (finding : Finding)
      → IsCall reads writes due files a b e
      → contents_of files reads ≡ Whole texts → IsExclusive due → due texts (Deliver made shown finding)
      → ¬ Rose a.shelf_failures b.shelf_failures → ¬ Rose a.out_failures b.out_failures → OrFails (IsEnded finding) a b e
