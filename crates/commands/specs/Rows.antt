-- How a command ends, and what it then leaves: a row for each ending, the same for all commands.
-- A command is the names that it reads, the names that it writes, and what is due of the texts that it has read.
use Rattle.std.specs.Prelude.{◌≡◌, ◌⊎◌, List, None}
use Rattle.std.specs.List.{zip}
use Rattle.statement.specs.Benches.{Text}
use Rattle.outside.specs.Told.{Both, OnTold}
use Rattle.commands.specs.World.{Grows, GrowsInPart, IsAsBefore, IsUntouched, NoneFailed, OutFailed, ShelfFailed, World}
use Rattle.commands.specs.Contents.{FilesHold, IsReached, IsLonger}
use Rattle.commands.specs.Written.{AreFirstWritten, AreWrittenUpTo, LeavesFiles}
use Rattle.commands.specs.Names.{file_name_of}
use Rattle.commands.specs.Due.{Due, Refuse, Deliver}
use Rattle.commands.specs.declared.ending.Finding.{Finding}
use Rattle.commands.specs.declared.ending.WriteFailure.{WriteFailure}
use Rattle.commands.specs.declared.ending.WriteFailure.TheVariants as failure
use Rattle.commands.specs.declared.ending.Ending.{Ending}
use Rattle.commands.specs.declared.ending.Ending.TheVariants as ending

-- the files are written and the text is shown
abbrev pub Delivers : List (Text × Text) → Text → World → World → Type 0
Delivers files shown a b = LeavesFiles files a.files b.files × Grows a.taken b.taken shown × NoneFailed a b

-- A write failed: the files before are whole, that one is a prefix, later ones are as before, and nothing was shown.
-- Or all files are whole, and a prefix of the text was shown.
abbrev pub FailsToDeliver : WriteFailure → List (Text × Text) → Text → World → World → Type 0
FailsToDeliver (failure.File name) files shown a b =
    Both a.files b.files (AreWrittenUpTo files (file_name_of name)) × (b.taken ≡ a.taken) × ShelfFailed a b
FailsToDeliver failure.Output files shown a b = LeavesFiles files a.files b.files × GrowsInPart a.taken b.taken shown × OutFailed a b

-- Memory ran out: the first files are written, each whole, and nothing was shown. Or all are, and a prefix of the text was shown.
abbrev pub StopsDelivering : List (Text × Text) → Text → World → World → Type 0
StopsDelivering files shown a b =
    (Both a.files b.files (AreFirstWritten files) × (b.taken ≡ a.taken) × NoneFailed a b)
    ⊎ (LeavesFiles files a.files b.files × GrowsInPart a.taken b.taken shown × NoneFailed a b)

module _ {R : Type 0} (reads writes : List Text) (due : List Text → Due R → Type 0) where
  -- this is due of what was read
  abbrev pub IsDue : World → Due R → Type 0
  IsDue a d = (texts : List Text) × FilesHold a.files reads texts × due texts d

  abbrev pub CommandRow : World → World → Ending R → Type 0
  CommandRow a b (ending.Ended finding) =
      (texts : List Text) × (shown : Text) × IsDue a (Deliver texts shown finding) × Delivers (zip writes texts) shown a b
  CommandRow a b (ending.WriteFailed failure) =
      (texts : List Text) × (shown : Text) × (finding : Finding) × IsDue a (Deliver texts shown finding) × FailsToDeliver failure (zip writes texts) shown a b
  CommandRow a b (ending.Refused r) = IsDue a (Refuse r) × IsAsBefore a b
  CommandRow a b (ending.ReadFailed name) = IsReached a.files reads (file_name_of name) × IsUntouched a b × ShelfFailed a b
  CommandRow a b (ending.Missing name) =
      IsReached a.files reads (file_name_of name) × OnTold a.files (λ c. c (file_name_of name) ≡ None) × IsAsBefore a b
  CommandRow a b (ending.TooLong name) =
      IsReached a.files reads (file_name_of name) × OnTold a.files (λ c. IsLonger (c (file_name_of name))) × IsAsBefore a b
  CommandRow a b ending.Memory =
      IsAsBefore a b
      ⊎ ((texts : List Text) × (shown : Text) × (finding : Finding) × IsDue a (Deliver texts shown finding) × StopsDelivering (zip writes texts) shown a b)
