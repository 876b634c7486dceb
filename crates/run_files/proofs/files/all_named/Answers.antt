use Rattle.run_files.proofs.PointLemmas.{all_named}
use Rattle.run_files.proofs.files.all_named.Goals as goal

pub returns : goal.returns
returns c =
    let case = c.args.case.now in
    let found = c.args.found.now in
    all_named case.netlist.now c.sound.ensures case.holds.now case.subject.now.classes c.requires.case.subject.classes case.plan.limit found.patterns.items found.verdicts.items
    c.requires.found.verdicts c.faults_have_signals.ensures
