-- What the work of a command answers.
use Rattle.std.specs.Prelude.{◌≡◌, ⊤, ℕ, Result, Ok, Err, length}
use Rattle.commands.specs.Names.{texts_of}
use Rattle.commands.specs.Due.{Due, Refuse, Deliver}
use Rattle.commands.specs.declared.product.Product.{Product}
use Rattle.commands.specs.declared.product.Stop.{Stop}
use Rattle.commands.specs.declared.product.Stop.TheVariants as stop

-- what the work answers is due
abbrev pub IsWorked : {R : Type 0} → (Due R → Type 0) → ℕ → Result Product (Stop R) → Type 0
IsWorked due count (Ok p) = due (Deliver (texts_of p.texts.items) p.shown.items p.finding) × (length p.texts.items ≡ count)
IsWorked due count (Err (stop.Refused r)) = due (Refuse r)
IsWorked due count (Err stop.NoMemory) = ⊤
