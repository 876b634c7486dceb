-- The list of held inputs, as `a=0,b=1`.
use Rattle.std.specs.Prelude.{◌==◌, ◌&&◌, ◌++◌, Bool, true, false, not, List, [], ◌∷◌, length, map, nat_lt, Option, Some, None, if◌then◌else◌, codes, option_and_then, option_map}
use Rattle.std.specs.List.{after_first, before_first, list_all, list_any, slice_split}
use Rattle.std.specs.Str.{bytes_eq}
use Rattle.clap.specs.Words.{Text}
use Rattle.statement.specs.Netlists.{is_name_byte}

-- an input's name, and the bit at which it is held
abbrev pub HoldItem : Type 0
HoldItem = Text × Bool

-- the bytes of names, at least one
abbrev pub is_name : Text → Bool
is_name text = nat_lt 0 (length text) && list_all is_name_byte text

-- `0` or `1`
abbrev pub bit_in : Text → Option Bool
bit_in text = if bytes_eq text (codes "0") then Some false else if bytes_eq text (codes "1") then Some true else None

abbrev pub hold_by : Text → Text → Option HoldItem
hold_by name value = if is_name name then option_map (λ bit. (name, bit)) (bit_in value) else None

-- `NAME=0` or `NAME=1`: a name, `=` (61) and a bit
abbrev pub hold_in : Text → Option HoldItem
hold_in item = hold_by (before_first (λ b. b == 61) item) (after_first (λ b. b == 61) item)

abbrev pub with_hold : Option HoldItem → Option (List HoldItem) → Option (List HoldItem)
with_hold hold holds = option_and_then (λ h. option_map (λ hs. h ∷ hs) holds) hold

-- what each item holds, where each has its form
abbrev pub holds_of : List Text → Option (List HoldItem)
holds_of [] = Some []
holds_of (item ∷ items) = with_hold (hold_in item) (holds_of items)

-- no text stands among those before it
abbrev pub are_new : List Text → List Text → Bool
are_new before [] = true
are_new before (text ∷ texts) = not (list_any (bytes_eq text) before) && are_new (before ++ text ∷ []) texts

abbrev pub if_distinct : List HoldItem → Option (List HoldItem)
if_distinct holds = if are_new [] (map (λ h. h.0) holds) then Some holds else None

-- what the items between commas (44) hold, where each has its form and no name stands twice
abbrev pub holds_in : Text → Option (List HoldItem)
holds_in text = option_and_then if_distinct (holds_of (slice_split (λ b. b == 44) text))
