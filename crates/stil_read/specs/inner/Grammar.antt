-- The parts of a file in its tokens: what stands where, as far as the reader looks.
use Rattle.std.specs.Prelude.{ℕ, zero, suc, ◌≡◌, Option, Some, List, [], ◌∷◌, ◌++◌, codes, length, map}
use Rattle.statement.specs.Benches.{Text}
use Rattle.statement.specs.Stils.{StilFile, Item, where_chained, quoted, assigned, called}
use Rattle.stil_write.specs.Texts.{head_text}
use Rattle.stil_read.specs.Tokens.{Token, Spelled, tokens}
use Rattle.stil_read.specs.inner.Signals.{AreSignals, signal_tokens}
use Rattle.stil_read.specs.inner.Items.{AreAllItems}
use Rattle.stil_read.specs.inner.Skips.{behind_first}

abbrev pub input_kind : Text
input_kind = codes " In;\n"

abbrev pub scan_input_kind : Text
scan_input_kind = codes " In { ScanIn; }\n"

abbrev pub output_kind : Text
output_kind = codes " Out;\n"

-- the clock's line, where there are chains
abbrev pub clock_tokens : ℕ → List Token
clock_tokens chains = signal_tokens input_kind (where_chained chains (codes "SC__ck"))

-- inputs, as many scan inputs as chains, the clock, and outputs
pub record AreDeclared (all : List Token) (pi : List Text) (chains : ℕ) (po : List Text) (rest : List Token) : Type 0 where
  pub one : List Token
  pub two : List Token
  pub three : List Token
  pub four : List Token
  pub names : List Text
  pub head : all ≡ tokens head_text ++ one
  pub inputs : AreSignals input_kind one pi two
  pub scan_inputs : AreSignals scan_input_kind two names three
  pub counted : length names ≡ chains
  pub clock : three ≡ clock_tokens chains ++ four
  pub outputs : AreSignals output_kind four po rest

abbrev pub cells_word : Text
cells_word = codes "ScanCells"

-- the names behind the next `ScanCells`
pub record IsChain (all : List Token) (cells : List Text) (rest : List Token) : Type 0 where
  pub inner : List Token
  pub skipped : behind_first cells_word all ≡ Some inner
  pub names : AreSignals [] inner cells rest

pub record IsLastChain (Before : List (List Text) → List Token → Type 0) (chains : List (List Text)) (rest : List Token) : Type 0 where
  pub before : List (List Text)
  pub inner : List Token
  pub cells : List Text
  pub earlier : Before before inner
  pub chain : IsChain inner cells rest
  pub pushed : chains ≡ before ++ cells ∷ []

abbrev pub AreChains : ℕ → List Token → List (List Text) → List Token → Type 0
AreChains zero all chains rest = (chains ≡ []) × (all ≡ rest)
AreChains (suc n) all chains rest = IsLastChain (AreChains n all) chains rest

abbrev pub vector_word : Text
vector_word = codes "V"

abbrev pub shift_head : Text
shift_head = codes "{ \"SC__pi\" ="

-- the word that is assigned behind the next `V`
pub record IsShiftWord (all : List Token) (word : Text) (rest : List Token) : Type 0 where
  pub inner : List Token
  pub skipped : behind_first vector_word all ≡ Some inner
  pub word_is : inner ≡ tokens shift_head ++ (Spelled word ∷ rest)

abbrev pub IsShifted : ℕ → List Token → Text → List Token → Type 0
IsShifted zero all word rest = (word ≡ []) × (all ≡ rest)
IsShifted (suc n) all word rest = IsShiftWord all word rest

abbrev pub pattern_word : Text
pattern_word = codes "Pattern"

abbrev pub items_head : Text
items_head = codes "\"pattern\" { W \"wft\";"

-- the items behind the next `Pattern`
pub record ArePattern (chains : ℕ) (all : List Token) (items : List Item) (rest : List Token) : Type 0 where
  pub inner : List Token
  pub behind : List Token
  pub skipped : behind_first pattern_word all ≡ Some inner
  pub head : inner ≡ tokens items_head ++ behind
  pub listed : AreAllItems (map quoted (called chains)) (map quoted (assigned chains)) behind items rest

-- the parts one behind the other
pub record IsSpelt (f : StilFile) (all : List Token) : Type 0 where
  pub one : List Token
  pub two : List Token
  pub three : List Token
  pub rest : List Token
  pub signals : AreDeclared all f.pi (length f.chains) f.po one
  pub chains : AreChains (length f.chains) one f.chains two
  pub shift : IsShifted (length f.chains) two f.shift_word three
  pub pattern : ArePattern (length f.chains) three f.items rest
