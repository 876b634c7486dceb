use Rattle.std.proofs.Common.{◌∙◌, List, ap, subst}
use Rattle.statement.specs.Benches.{Text}
use Rattle.commands.specs.Names.{file_names_of}
use Rattle.commands.specs.Reads.{ReadRow}
use Rattle.asked_run.proofs.running.read_texts.Goals as goal

pub returns-in-Ok : goal.returns-in-Ok
returns-in-Ok g c =
    subst (λ (names : List Text). ReadRow names (g.S.Shelf.files c.args.shelf.now) (g.S.Shelf.failures c.args.shelf.now) (g.S.Shelf.files c.read_in_order.new.shelf) (g.S.Shelf.failures c.read_in_order.new.shelf)
    c.read_in_order.result) (ap file_names_of c.as_slice.ensures.value ∙ c.in-Ok.ensures) c.read_in_order.ensures
