-- The lines of a report: the held inputs, and what is said of each fault.
use Rattle.std.specs.Prelude.{ℕ, List, ◌++◌, codes, decimal}
use Rattle.statement.specs.declared.outcomes.Outcome.{Outcome}
use Rattle.statement.specs.declared.outcomes.Outcome.TheVariants.{Detected, Redundant, Aborted, Unasked}

-- A line of a fault: its text, what came of it, and where it is detected the name of the pin.
pub record Line : Type 0 where
  pub fault : List ℕ
  pub outcome : Outcome
  pub pin : List ℕ

abbrev pub outcome_text : Outcome → List ℕ → List ℕ
outcome_text (Detected pattern cycle) pin = codes " detected " ++ (decimal pattern ++ (codes " " ++ (decimal cycle ++ (codes " " ++ pin))))
outcome_text Redundant pin = codes " redundant"
outcome_text Aborted pin = codes " aborted"
outcome_text Unasked pin = codes " unasked"

-- `stem a/0 detected 1 1 y`
abbrev pub fault_line : Line → List ℕ
fault_line l = l.fault ++ (outcome_text l.outcome l.pin ++ codes "\n")
