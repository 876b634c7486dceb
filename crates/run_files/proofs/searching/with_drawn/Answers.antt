use Rattle.run_files.proofs.FoundLemmas.{drawn_behind}
use Rattle.run_files.proofs.searching.with_drawn.Goals as goal

pub returns : goal.returns
returns g c =
    drawn_behind c.args.errand.now.core.now c.args.errand.now.holds.now c.args.first.items c.in_ok-drawn.field-0.items c.in_ok-with_behind.field-0.items c.requires.first c.in_ok-drawn.ensures
    c.in_ok-with_behind.ensures
