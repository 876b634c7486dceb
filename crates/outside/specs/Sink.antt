-- What a sink has taken, where it tells it.
use Rattle.std.specs.Prelude.{◌≡◌, ◌++◌, ℕ, List, Option, Result, Ok, Err, take}
use Rattle.outside.specs.Told.{Both}
use Rattle.outside.specs.declared.refusal.WriteRefusal.{WriteRefusal}
use Rattle.outside.specs.declared.refusal.WriteRefusal.TheVariants as write

-- the sink has gained the bytes; after a failed write a prefix of them; and after want of memory nothing
abbrev pub Gains : List ℕ → List ℕ → List ℕ → Result Unit WriteRefusal → Type 0
Gains old new bytes (Ok _) = new ≡ old ++ bytes
Gains old new bytes (Err write.Failed) = (kept : ℕ) × (new ≡ old ++ take kept bytes)
Gains old new bytes (Err write.NoMemory) = new ≡ old

-- what a write makes of the bytes that a sink has taken, where they are told
abbrev pub Puts : Option (List ℕ) → Option (List ℕ) → List ℕ → Result Unit WriteRefusal → Type 0
Puts before after bytes result = Both before after (λ old new. Gains old new bytes result)
