use Rattle.run_files.proofs.FoundLemmas.{may_be_searched, searched_all}
use Rattle.run_files.proofs.searching.search.Goals as goal

pub search_asked-requires-clause-asked : goal.search_asked-requires-clause-asked
search_asked-requires-clause-asked g c κs within =
    may_be_searched c.args.errand.now.core.now c.args.classes.now c.args.faults.now c.in_ok-asked.asked c.in_ok-asked.ensures c.represented.ensures.represented

pub returns : goal.returns
returns g c =
    let plan = c.args.plan in
    let found = c.in_ok-found.found in
    let all = c.in_ok-spread_over.field-0 in
    searched_all c.args.errand.now.core.now c.args.errand.now.holds.now plan.limit g.E.Engine.refutes plan.times plan.percent c.args.classes.now c.args.faults.now c.args.first.items
    c.in_ok-asked.asked c.deref.result.now found.patterns.items all.patterns.items found.verdicts.items all.verdicts.items c.requires.classes c.in_ok-asked.ensures c.in_ok-found.ensures
    c.in_ok-spread_over.ensures c.deref.ensures.value
