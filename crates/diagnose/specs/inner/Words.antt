-- A line without its end.
use Rattle.std.specs.Prelude.{ℕ, List, ◌++◌, codes, decimal}
use Rattle.diagnose.specs.Failures.{Failing}

abbrev pub failure_words : Failing → List ℕ
failure_words f = decimal f.cycle ++ (codes " " ++ f.signal)
