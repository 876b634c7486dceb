-- The tokens of written lines are those that the reader looks for.
use Rattle.std.specs.Prelude.{◌≡◌, ◌==◌, ⊤, false, List, [], ◌∷◌, ◌++◌, codes, map}
use Rattle.statement.specs.Benches.{Text}
use Rattle.statement.specs.Stils.{assignments, quoted}
use Rattle.stil_write.specs.Pieces.{signal_lines}
use Rattle.stil_read.specs.declared.bytes.Class.TheVariants as class
use Rattle.stil_read.specs.inner.Assigned.{assigned_tokens}
use Rattle.stil_read.specs.Tokens.{Spelled, class_of, tokens}
use Rattle.stil_read.specs.inner.Signals.{signal_tokens}
use Rattle.stil_read.specs.inner.Whole.{IsWhole}

-- it has no double quote
abbrev pub IsQuotable : Text → Type 0
IsQuotable [] = ⊤
IsQuotable (b ∷ bs) = ((b == 34) ≡ false) × IsQuotable bs

abbrev pub AreQuotable : List Text → Type 0
AreQuotable [] = ⊤
AreQuotable (name ∷ names) = IsQuotable name × AreQuotable names

-- a quoted name is a token
abbrev pub QuotedTokens : Type 0
QuotedTokens = (name rest : Text) → IsQuotable name → tokens (quoted name ++ rest) ≡ Spelled (quoted name) ∷ tokens rest

-- the lines of signals of one kind
abbrev pub SignalLinesTokens : Type 0
SignalLinesTokens =
    (kind : Text) (names : List Text) (rest : Text) → IsWhole kind → AreQuotable names
    → tokens (signal_lines kind names ++ rest) ≡ signal_tokens kind names ++ tokens rest

-- the four kinds of the profile end their tokens
pub record KindsAreWhole : Type 0 where
  pub inputs : IsWhole (codes " In;\n")
  pub scan_inputs : IsWhole (codes " In { ScanIn; }\n")
  pub outputs : IsWhole (codes " Out;\n")
  pub scan_outputs : IsWhole (codes " Out { ScanOut; }\n")

-- a word of letters, digits, `_ . #`
abbrev pub AreLetters : Text → Type 0
AreLetters [] = ⊤
AreLetters (b ∷ bs) = (class_of b ≡ class.Letter) × AreLetters bs

abbrev pub IsValueWord : Text → Type 0
IsValueWord [] = ⊥
IsValueWord (b ∷ bs) = AreLetters (b ∷ bs)

abbrev pub AreAssignable : List Text → List Text → Type 0
AreAssignable [] words = ⊤
AreAssignable (signal ∷ signals) [] = ⊤
AreAssignable (signal ∷ signals) (word ∷ words) = IsQuotable signal × IsValueWord word × AreAssignable signals words

-- the words that a call or a vector assigns
abbrev pub AssignmentsTokens : Type 0
AssignmentsTokens =
    (signals words : List Text) (rest : Text) → AreAssignable signals words
    → tokens (assignments signals words ++ rest) ≡ assigned_tokens (map quoted signals) words ++ tokens rest
