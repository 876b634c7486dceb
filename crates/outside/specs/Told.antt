-- What is said of a content only where it is told.
use Rattle.std.specs.Prelude.{⊤, Option, Some, None}

-- at the content, where it is told
abbrev pub OnTold : {X : Type 0} → Option X → (X → Type 0) → Type 0
OnTold None P = ⊤
OnTold (Some x) P = P x

-- at the contents before and after, where they are told before: what tells its content doesn't cease to
abbrev pub Both : {X : Type 0} → Option X → Option X → (X → X → Type 0) → Type 0
Both None new P = ⊤
Both (Some old) None P = ⊥
Both (Some old) (Some new) P = P old new
