-- What stands behind the first token that is spelled so.
use Rattle.std.specs.Prelude.{◌≡◌, Bool, false, if◌then◌else◌, Option, Some, None, List, [], ◌∷◌, ◌++◌}
use Rattle.std.specs.Str.{bytes_eq}
use Rattle.statement.specs.Benches.{Text}
use Rattle.stil_read.specs.Tokens.{Token, Spelled, Stray, tokens}

abbrev pub is_spelled : Text → Token → Bool
is_spelled word (Spelled text) = bytes_eq text word
is_spelled word Stray = false

unfoldable pub behind_first : Text → List Token → Option (List Token)
behind_first word [] = None
behind_first word (t ∷ ts) = if is_spelled word t then Some ts else behind_first word ts

-- no token of this text is spelled so, and its last token has ended
abbrev pub Passes : Text → Text → Type 0
Passes word text = (rest : Text) → behind_first word (tokens (text ++ rest)) ≡ behind_first word (tokens rest)
