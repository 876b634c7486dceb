-- A text that is put on a sink in pieces.
use Rattle.std.specs.Prelude.{◌≡◌, ◌++◌, ℕ, List, Option, Result, Ok, Err}
use Rattle.std.specs.List.{flat_map}
use Rattle.statement.specs.Benches.{Text}
use denote.Ref.{Bor}
use Rattle.outside.specs.Causes.{HasWriteCause}
use Rattle.outside.specs.Told.{Both}
use Rattle.outside.specs.declared.refusal.WriteRefusal.{WriteRefusal}
use Rattle.commands.specs.World.{Grows, GrowsInPart}

-- the text that the pieces make
abbrev pub join : List (Bor Text) → Text
join pieces = flat_map (λ p. p.now) pieces

-- the text is put, or a prefix of it where the sink failed or was refused memory
abbrev pub IsPut : Option Text → Option Text → Text → Result Unit WriteRefusal → Type 0
IsPut before after text (Ok _) = Grows before after text
IsPut before after text (Err e) = GrowsInPart before after text

-- the same, with the sink's count of failures before and after
abbrev pub PutsText : Option Text → ℕ → Option Text → ℕ → Text → Result Unit WriteRefusal → Type 0
PutsText a f b g text result = IsPut a b text result × HasWriteCause f g result

-- a part of the text was put, and the rest waits
abbrev pub Waits : Option Text → Option Text → Text → Text → Type 0
Waits before after text rest =
    Both before after (λ old new. (sent : Text) × (new ≡ old ++ sent) × (text ≡ sent ++ rest))
