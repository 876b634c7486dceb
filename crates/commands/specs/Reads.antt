-- What the reads of several files answer.
use Rattle.std.specs.Prelude.{◌≡◌, ℕ, List, Option, None, Result, Ok, Err, Vec}
use Rattle.std.specs.declared.alloc.Global.{Global}
use Rattle.statement.specs.Benches.{Text}
use Rattle.outside.specs.Causes.{Rose}
use Rattle.outside.specs.Shelf.{Files}
use Rattle.outside.specs.Told.{OnTold}
use Rattle.commands.specs.Contents.{FilesHold, IsReached, IsLonger}
use Rattle.commands.specs.Names.{file_name_of, texts_of}
use Rattle.commands.specs.declared.ending.Ending.{Ending}
use Rattle.commands.specs.declared.ending.Ending.TheVariants as ending

-- why the files aren't read: the first that is refused
abbrev pub NoFiles : {R : Type 0} → List Text → Option Files → ℕ → ℕ → Ending R → Type 0
NoFiles names a f g (ending.ReadFailed n) = IsReached a names (file_name_of n) × Rose f g
NoFiles names a f g (ending.Missing n) = IsReached a names (file_name_of n) × OnTold a (λ c. c (file_name_of n) ≡ None) × (g ≡ f)
NoFiles names a f g (ending.TooLong n) = IsReached a names (file_name_of n) × OnTold a (λ c. IsLonger (c (file_name_of n))) × (g ≡ f)
NoFiles names a f g ending.Memory = g ≡ f
NoFiles names a f g _ = ⊥

-- the texts of all files, or why there are none; no file is changed
abbrev pub ReadRow : {R : Type 0} → List Text → Option Files → ℕ → Option Files → ℕ → Result (Vec (Vec ℕ Global) Global) (Ending R) → Type 0
ReadRow names a f b g (Ok texts) = FilesHold a names (texts_of texts.items) × (b ≡ a) × (g ≡ f)
ReadRow names a f b g (Err e) = NoFiles names a f g e × (b ≡ a)
