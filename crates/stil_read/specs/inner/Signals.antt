-- Signals of one kind, line by line: a quoted name, and then the tokens of the kind.
use Rattle.std.specs.Prelude.{◌≡◌, List, ◌∷◌, ◌++◌}
use Rattle.std.specs.List.{flat_map}
use Rattle.statement.specs.Benches.{Text}
use Rattle.statement.specs.Stils.{quoted}
use Rattle.stil_read.specs.Tokens.{Token, Spelled, tokens}

abbrev pub signal_tokens : Text → List Text → List Token
signal_tokens kind names = flat_map (λ name. Spelled (quoted name) ∷ tokens kind) names

-- no signal of this kind comes next
abbrev pub NoSignal : Text → List Token → Type 0
NoSignal kind ts = (name : Text) (more : List Token) → ts ≡ Spelled (quoted name) ∷ (tokens kind ++ more) → ⊥

-- the tokens are those of these names, and then of no further one
pub record AreSignals (kind : Text) (all : List Token) (names : List Text) (rest : List Token) : Type 0 where
  pub split : all ≡ signal_tokens kind names ++ rest
  pub last : NoSignal kind rest
