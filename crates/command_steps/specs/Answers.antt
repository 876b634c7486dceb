-- What the code of a step answers.
use Rattle.std.specs.Prelude.{⊤, List, Result, Ok, Err, Vec}
use Rattle.std.specs.declared.alloc.Global.{Global}
use Rattle.commands.specs.declared.product.Stop.{Stop}
use Rattle.commands.specs.declared.product.Stop.TheVariants as stop
use Rattle.command_steps.specs.declared.refusal.Refusal.{Refusal}

-- it is what the step gives, or the step's refusal, or memory was refused
abbrev pub Answers : {A : Type 0} → (Result A Refusal → Type 0) → Result A (Stop Refusal) → Type 0
Answers step (Ok x) = step (Ok x)
Answers step (Err (stop.Refused r)) = step (Err r)
Answers step (Err stop.NoMemory) = ⊤

-- the same of a list, in a vector
abbrev pub AnswersList : {A : Type 0} → (Result (List A) Refusal → Type 0) → Result (Vec A Global) (Stop Refusal) → Type 0
AnswersList step (Ok v) = step (Ok v.items)
AnswersList step (Err (stop.Refused r)) = step (Err r)
AnswersList step (Err stop.NoMemory) = ⊤
