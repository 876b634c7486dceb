-- What reads and writes of a shelf mean, where its files are told.
use Rattle.std.specs.Prelude.{◌≡◌, ◌≤◌, ◌<◌, ◌+◌, ⊤, ℕ, List, Option, Some, None, Result, Ok, Err}
use Rattle.std.specs.Prelude.{length, take, if◌then◌else◌, Vec}
use Rattle.std.specs.Str.{bytes_eq}
use Rattle.std.specs.declared.alloc.Global.{Global}
use Rattle.outside.specs.Told.{Both}
use Rattle.outside.specs.declared.refusal.ReadRefusal.{ReadRefusal}
use Rattle.outside.specs.declared.refusal.ReadRefusal.TheVariants as read
use Rattle.outside.specs.declared.refusal.WriteRefusal.{WriteRefusal}
use Rattle.outside.specs.declared.refusal.WriteRefusal.TheVariants as write

-- the bytes of the file of a name, where there is one
abbrev pub Files : Type 0
Files = List ℕ → Option (List ℕ)

-- What a read answers of a file: its bytes, that it is longer than `max`, or that it isn't there.
-- The three exclude each other (`IsWithin`), so that each comes exactly where its line holds, but for a failed read and want of memory.
abbrev pub Tells : Option (List ℕ) → ℕ → Result (Vec ℕ Global) ReadRefusal → Type 0
Tells file max (Ok bytes) = file ≡ Some bytes.items
Tells None max (Err (read.TooLong n)) = ⊥
Tells (Some bytes) max (Err (read.TooLong n)) = max < length bytes
Tells file max (Err read.Missing) = file ≡ None
Tells file max (Err read.Failed) = ⊤
Tells file max (Err read.NoMemory) = ⊤

-- at most `max` bytes come, and of a longer file one more is seen
abbrev pub IsWithin : ℕ → Result (Vec ℕ Global) ReadRefusal → Type 0
IsWithin max (Ok bytes) = length bytes.items ≤ max
IsWithin max (Err (read.TooLong n)) = n ≡ max + 1
IsWithin max (Err _) = ⊤

-- the new files have these bytes under the name, and under each other name what the old ones have
abbrev pub GainsFile : Files → List ℕ → List ℕ → Files → Type 0
GainsFile old name bytes new =
    (other : List ℕ) → new other ≡ (if bytes_eq name other then Some bytes else old other)

abbrev pub SameFiles : Files → Files → Type 0
SameFiles old new = (name : List ℕ) → new name ≡ old name

-- the name holds the bytes; after a failed write a prefix of them; and after want of memory what it held
abbrev pub WritesFile : Files → Files → List ℕ → List ℕ → Result Unit WriteRefusal → Type 0
WritesFile old new name bytes (Ok _) = GainsFile old name bytes new
WritesFile old new name bytes (Err write.Failed) = (kept : ℕ) × GainsFile old name (take kept bytes) new
WritesFile old new name bytes (Err write.NoMemory) = SameFiles old new

-- what a write makes of the files, where they are told
abbrev pub Writes : Option Files → Option Files → List ℕ → List ℕ → Result Unit WriteRefusal → Type 0
Writes before after name bytes result =
    Both before after (λ old new. WritesFile old new name bytes result)
