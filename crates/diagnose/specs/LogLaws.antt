-- Laws of logs, each the contract of a function of its name.
use Rattle.std.specs.Prelude.{ℕ, ◌≡◌, List}
use Rattle.diagnose.specs.Reading.{IsLogOf}
use Rattle.diagnose.specs.declared.failures.FailLog.{FailLog}

-- A text is that of one log at most.
abbrev pub OneLog : Type 0
OneLog = (bytes : List ℕ) (log other : FailLog) → IsLogOf bytes log → IsLogOf bytes other → log ≡ other
