-- What a call of the program sees of the outside, before and after.
use Rattle.std.specs.Prelude.{◌≡◌, ◌++◌, ℕ, Option, take}
use Rattle.statement.specs.Benches.{Text}
use Rattle.outside.specs.Causes.{Rose}
use Rattle.outside.specs.Shelf.{Files}
use Rattle.outside.specs.Told.{Both}

-- the files, what the output has taken, and how many calls of each have failed
pub record World : Type 0 where
  pub files : Option Files
  pub shelf_failures : ℕ
  pub taken : Option Text
  pub out_failures : ℕ

abbrev pub world : Option Files → ℕ → Option Text → ℕ → World
world files shelf_failures taken out_failures = record {
  files = files;
  shelf_failures = shelf_failures;
  taken = taken;
  out_failures = out_failures;
}

-- no name holds anything else, and the output has taken nothing
abbrev pub IsUntouched : World → World → Type 0
IsUntouched a b = (b.files ≡ a.files) × (b.taken ≡ a.taken)

-- no call has failed
abbrev pub NoneFailed : World → World → Type 0
NoneFailed a b = (b.shelf_failures ≡ a.shelf_failures) × (b.out_failures ≡ a.out_failures)

-- one call of the shelf has failed, and none of the output
abbrev pub ShelfFailed : World → World → Type 0
ShelfFailed a b = Rose a.shelf_failures b.shelf_failures × (b.out_failures ≡ a.out_failures)

-- one call of the output has failed, and none of the shelf
abbrev pub OutFailed : World → World → Type 0
OutFailed a b = (b.shelf_failures ≡ a.shelf_failures) × Rose a.out_failures b.out_failures

abbrev pub IsAsBefore : World → World → Type 0
IsAsBefore a b = IsUntouched a b × NoneFailed a b

-- what was taken has grown by the text
abbrev pub Grows : Option Text → Option Text → Text → Type 0
Grows before after text = Both before after (λ old new. new ≡ old ++ text)

-- what was taken has grown by a prefix of the text
abbrev pub GrowsInPart : Option Text → Option Text → Text → Type 0
GrowsInPart before after text = Both before after (λ old new. (kept : ℕ) × (new ≡ old ++ take kept text))
