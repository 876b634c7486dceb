use Rattle.run_files.proofs.DrawLemmas.{is_next}
use Rattle.run_files.proofs.drawing.with_batch.Goals as goal

pub returns-clause-next : goal.returns-clause-next
returns-clause-next g c =
    let old = c.args.drawn in
    is_next c.args.errand.now.core.now c.args.errand.now.holds.now old.patterns.items c.in_ok-patterns.patterns.items c.in_ok-more.more.items old.left.items c.in_ok-more.rest.items
    c.requires.so_far c.in_ok-more.ensures.batch c.in_ok-patterns.ensures
