-- What the text of a log stands for.
use Rattle.std.specs.Prelude.{ℕ, ◌≡◌, ⊤, List, Result, Ok, Err}
use Rattle.std.specs.List.{All}
use Rattle.diagnose.specs.Failures.{Failing, IsBefore, IsEnd, IsFailing}
use Rattle.diagnose.specs.Texts.{log_text}
use Rattle.diagnose.specs.declared.failures.FailLog.{FailLog}
use Rattle.diagnose.specs.declared.reading.LogFault.{LogFault}
use Rattle.diagnose.specs.declared.reading.LogFault.TheVariants as fault

-- failures, each before the end
pub record IsLog (log : FailLog) : Type 0 where
  pub failures : All IsFailing log.failures
  pub end : IsEnd log.end
  pub before : All (λ (f : Failing). IsBefore log.end f.cycle) log.failures

-- the log of which this is the text
abbrev pub IsLogOf : List ℕ → FailLog → Type 0
IsLogOf bytes log = IsLog log × (bytes ≡ log_text log)

-- what reading answers: this log, or that there is none
abbrev pub IsLogRead : List ℕ → Result FailLog LogFault → Type 0
IsLogRead bytes (Ok log) = IsLogOf bytes log
IsLogRead bytes (Err fault.NotLog) = (log : FailLog) → ¬ IsLogOf bytes log
IsLogRead bytes (Err fault.NoMemory) = ⊤
