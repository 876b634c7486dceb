-- What the steps of a command answer: one read, the reads, the writes, the work.
use Rattle.std.specs.Prelude.{◌≡◌, ◌≤◌, ℕ, List, Option, Some, None, Result, Ok, Err, Vec, length, take}
use Rattle.std.specs.List.{zip}
use Rattle.std.specs.declared.alloc.Global.{Global}
use Rattle.statement.specs.Benches.{Text}
use Rattle.outside.specs.Causes.{Rose}
use Rattle.outside.specs.Shelf.{Files, GainsFile, SameFiles}
use Rattle.outside.specs.Told.{Both, OnTold}
use Rattle.commands.specs.Contents.{IsLonger, most_bytes}
use Rattle.commands.specs.Written.{AreFirstWritten, AreWrittenUpTo, LeavesFiles}
use Rattle.commands.specs.Names.{file_name_of}
use Rattle.commands.specs.declared.ending.WriteFailure.TheVariants as failure
use Rattle.commands.specs.declared.ending.Ending.{Ending}
use Rattle.commands.specs.declared.ending.Ending.TheVariants as ending

-- why a file isn't read
abbrev pub NoFile : {R : Type 0} → Text → Option Files → ℕ → ℕ → Ending R → Type 0
NoFile name a f g (ending.ReadFailed n) = (file_name_of n ≡ name) × Rose f g
NoFile name a f g (ending.Missing n) = (file_name_of n ≡ name) × OnTold a (λ c. c name ≡ None) × (g ≡ f)
NoFile name a f g (ending.TooLong n) = (file_name_of n ≡ name) × OnTold a (λ c. IsLonger (c name)) × (g ≡ f)
NoFile name a f g ending.Memory = g ≡ f
NoFile name a f g _ = ⊥

-- the text of a file, or why it isn't read; no file is changed
abbrev pub FileRow : {R : Type 0} → Text → Option Files → ℕ → Option Files → ℕ → Result (Vec ℕ Global) (Ending R) → Type 0
FileRow name a f b g (Ok bytes) = OnTold a (λ c. c name ≡ Some bytes.items) × (length bytes.items ≤ most_bytes) × (b ≡ a) × (g ≡ f)
FileRow name a f b g (Err e) = NoFile name a f g e × (b ≡ a)

-- why a file isn't written, and what then stands
abbrev pub NotWritten : {R : Type 0} → Text → Text → Option Files → ℕ → Option Files → ℕ → Ending R → Type 0
NotWritten name text a f b g (ending.WriteFailed (failure.File n)) =
    (file_name_of n ≡ name) × Rose f g × Both a b (λ old new. (kept : ℕ) × GainsFile old name (take kept text) new)
NotWritten name text a f b g ending.Memory = Both a b SameFiles × (g ≡ f)
NotWritten name text a f b g _ = ⊥

-- one file is written
abbrev pub WrittenRow : {R : Type 0} → Text → Text → Option Files → ℕ → Option Files → ℕ → Result Unit (Ending R) → Type 0
WrittenRow name text a f b g (Ok _) = Both a b (λ old new. GainsFile old name text new) × (g ≡ f)
WrittenRow name text a f b g (Err e) = NotWritten name text a f b g e

-- where the writes stopped
abbrev pub StopsWriting : {R : Type 0} → List Text → List Text → Option Files → ℕ → Option Files → ℕ → Ending R → Type 0
StopsWriting names texts a f b g (ending.WriteFailed (failure.File n)) = Rose f g × Both a b (AreWrittenUpTo (zip names texts) (file_name_of n))
StopsWriting names texts a f b g ending.Memory = Both a b (AreFirstWritten (zip names texts)) × (g ≡ f)
StopsWriting names texts a f b g _ = ⊥

abbrev pub WriteRow : {R : Type 0} → List Text → List Text → Option Files → ℕ → Option Files → ℕ → Result Unit (Ending R) → Type 0
WriteRow names texts a f b g (Ok _) = LeavesFiles (zip names texts) a b × (g ≡ f)
WriteRow names texts a f b g (Err e) = StopsWriting names texts a f b g e
