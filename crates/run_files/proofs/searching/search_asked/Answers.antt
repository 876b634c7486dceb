use Rattle.run_files.proofs.FoundLemmas.{found_finally}
use Rattle.run_files.proofs.searching.search_asked.Goals as goal

pub returns : goal.returns
returns g c =
    let found = c.in_ok-found.found in
    let kept = c.in_ok-kept.kept in
    found_finally c.args.errand.now.core.now c.args.errand.now.holds.now c.args.plan.limit g.E.Engine.refutes c.args.plan.percent c.args.asked.now c.args.plan.times c.args.first.items
    c.in_ok-all.all.items found.patterns.items kept.patterns.items found.verdicts.items kept.verdicts.items c.as_slice.result.now c.requires.asked c.in_ok-all.ensures c.in_ok-found.ensures
    c.in_ok-kept.ensures c.as_slice.ensures.value
