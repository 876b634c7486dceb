-- Logs as texts. Lines of failures may stand in any order, and more than once; behind them stands the end, where the log has one.
use Rattle.std.specs.Prelude.{ℕ, List, [], ◌++◌, Option, Some, None, codes, decimal}
use Rattle.std.specs.List.{flat_map}
use Rattle.diagnose.specs.Failures.{Failing}
use Rattle.diagnose.specs.declared.failures.FailLog.{FailLog}

-- `5 SC__so0`
abbrev pub failing_line : Failing → List ℕ
failing_line f = decimal f.cycle ++ (codes " " ++ (f.signal ++ codes "\n"))

-- `end 120`
abbrev pub end_line : Option ℕ → List ℕ
end_line None = []
end_line (Some end) = codes "end " ++ (decimal end ++ codes "\n")

abbrev pub log_text : FailLog → List ℕ
log_text log = codes "atpg fail log 1\n" ++ (flat_map failing_line log.failures ++ end_line log.end)
