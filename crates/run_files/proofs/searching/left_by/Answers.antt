use Rattle.run_files.proofs.FoundLemmas.{left_is}
use Rattle.run_files.proofs.searching.left_by.Goals as goal

pub returns : goal.returns
returns g c =
    left_is c.args.errand.now.core.now c.args.plan.percent c.args.asked.now c.args.patterns.now c.as_slice.result.now c.in_ok-found.found.items c.in_ok-left.left c.requires.asked c.in_ok-found.ensures
    c.in_ok-left.ensures c.as_slice.ensures.value
