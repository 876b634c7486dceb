-- A line of two counts, each behind its words.
use Rattle.std.specs.Prelude.{ℕ, ◌++◌, codes, decimal}
use Rattle.statement.specs.Benches.{Text}

abbrev pub two_counts : Text → ℕ → Text → ℕ → Text
two_counts first many second more = first ++ (decimal many ++ (second ++ (decimal more ++ codes "\n")))
