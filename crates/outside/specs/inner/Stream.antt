-- What a writer holds after a write that may have been cut short.
use Rattle.std.specs.Prelude.{ℕ, List, Option, take}
use Rattle.std.specs.Io.KnownBytes.{Appends}

-- the bytes that it holds, where they are known, grew by a prefix of these
abbrev pub AppendsPart : Option (List ℕ) → Option (List ℕ) → List ℕ → Type 0
AppendsPart old new bytes = (kept : ℕ) × Appends old new (take kept bytes)
