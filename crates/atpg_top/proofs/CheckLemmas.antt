-- The check of five files, in the words of this program's refusals.
use Rattle.std.proofs.Common.{◌≡◌, List, Ok, Err, refl, ap}
use Rattle.statement.specs.Benches.{Text}
use Rattle.commands.specs.Due.{Deliver, Refuse}
use Rattle.commands.specs.Names.{texts_of}
use Rattle.commands.specs.Worked.{IsWorked}
use Rattle.commands.specs.declared.product.Product.{Product}
use Rattle.commands.specs.declared.product.Stop.TheVariants as stop
use Rattle.check_command.specs.Checking as command
use Rattle.check_command.specs.declared.refusal.CheckRefusal.{CheckRefusal}
use Rattle.atpg_top.specs.Checks.{check_due, refusal_of}
use Rattle.command_steps.specs.declared.refusal.Refusal.{Refusal}

pub done : (texts : List Text) (p : Product) → IsWorked (command.five_texts_due texts) 0 (Ok p) → IsWorked (check_due texts) 0 (Ok p)
done texts p is = ((Deliver (texts_of p.texts.items) p.shown.items p.finding, is.0, refl), is.1)

pub refused : (texts : List Text) (why : CheckRefusal) (r : Refusal) → r ≡ refusal_of why → IsWorked (command.five_texts_due texts) 0 (Err (stop.Refused why))
    → IsWorked (check_due texts) 0 (Err (stop.Refused r))
refused texts why r same is = (Refuse why, is, ap Refuse same)
