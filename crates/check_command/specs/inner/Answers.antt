-- What a check answers, on the way to what is due.
use Rattle.std.specs.Prelude.{◌≡◌, ⊤, [], Result, Ok, Err}
use Rattle.commands.specs.Due.{Due, Deliver}
use Rattle.commands.specs.declared.product.Stop.{Stop}
use Rattle.commands.specs.declared.product.Stop.TheVariants as stop
use Rattle.statement.specs.Statement.{FiveFiles}
use Rattle.good_files.specs.declared.answers.Checked.{Checked}
use Rattle.check_command.specs.Checking.{IsAnswerOf, answer_line, fault_of, checked_finding}
use Rattle.check_command.specs.declared.refusal.CheckRefusal.{CheckRefusal}

-- the answer of a check, or its refusal, or memory was refused
abbrev pub IsAnswered : FiveFiles → Result Checked (Stop CheckRefusal) → Type 0
IsAnswered files (Ok answer) = IsAnswerOf files (Ok answer)
IsAnswered files (Err (stop.Refused why)) = IsAnswerOf files (Err (fault_of why))
IsAnswered files (Err stop.NoMemory) = ⊤

-- what is due of an answer
abbrev pub answer_due : Checked → Due CheckRefusal → Type 0
answer_due answer d = d ≡ Deliver [] (answer_line answer) (checked_finding answer)
