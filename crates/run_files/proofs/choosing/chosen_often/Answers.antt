use Rattle.run_files.proofs.NearLemmas.{chosen_of_told}
use Rattle.run_files.proofs.choosing.chosen_often.Goals as goal

pub returns : goal.returns
returns g c =
    let old = c.args.found in
    let new = c.in_ok-found.found in
    chosen_of_told c.args.errand.now.core.now c.args.errand.now.holds.now c.args.plan.times c.args.faults.now old.patterns.items c.in_ok-patterns.patterns.items new.patterns.items old.verdicts.items
    new.verdicts.items c.in_ok-patterns.ensures c.in_ok-found.ensures c.requires.ready.times
