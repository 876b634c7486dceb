-- Lines without comments, and their longest runs.
use Rattle.std.specs.Prelude.{ℕ, ◌≡◌, ◌<◌, Bool, true, not, ◌&&◌, ◌==◌, List, length, Some}
use Rattle.std.specs.List.{list_all}
use Rattle.bench_text.specs.Bytes.{code, is_allowed}
use Rattle.bench_text.specs.Tokens.{Token, Word, Open, Close, Comma, Equals, is_word_byte, tokens}
use Rattle.bench_text.specs.Forms.{Statement, statement}

-- a byte that may stand in a line and begins no comment
abbrev pub is_plain : ℕ → Bool
is_plain b = is_allowed b && not (b == 35)

-- bytes that make one word
pub record IsRun (x : List ℕ) : Type 0 where
  pub some : 0 < length x
  pub word : list_all is_word_byte x ≡ true
  pub plain : list_all is_plain x ≡ true

-- a line holds no byte that isn't allowed, and says this
abbrev pub Says : List ℕ → Statement → Type 0
Says line s = (list_all is_allowed (code line) ≡ true) × (statement (tokens (code line)) ≡ Some s)

-- a token that is a run where it is a word
abbrev pub IsNamed : Token → Type 0
IsNamed (Word w) = IsRun w
IsNamed Open = Unit {0}
IsNamed Close = Unit {0}
IsNamed Comma = Unit {0}
IsNamed Equals = Unit {0}
