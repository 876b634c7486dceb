-- Failures as they are kept: cycles and signals in tables of their own.
use Rattle.std.specs.Prelude.{ℕ, List, [], ◌∷◌}
use Rattle.diagnose.specs.Failures.{Failing}

abbrev pub failures_of : List ℕ → List (List ℕ) → List Failing
failures_of [] signals = []
failures_of (c ∷ cs) [] = []
failures_of (c ∷ cs) (s ∷ ss) = record { cycle = c; signal = s } ∷ failures_of cs ss
