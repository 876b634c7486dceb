-- What checks of reasons find.
use Rattle.std.specs.Prelude.{ℕ, ◌<◌, List}
use Rattle.std.specs.List.{All}
use Rattle.refutation.specs.declared.steps.Literal.{Literal}

-- each literal names one of so many signals
abbrev pub AreWithin : ℕ → List Literal → Type 0
AreWithin count clause = All (λ (l : Literal). l.signal < count) clause
