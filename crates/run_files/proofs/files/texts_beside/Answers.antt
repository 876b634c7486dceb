use Rattle.run_files.proofs.WrittenLemmas.{written_by}
use Rattle.run_files.proofs.files.texts_beside.Goals as goal

pub returns : goal.returns
returns c =
    let case = c.args.case.now in
    written_by case.netlist.now c.args.scanned.now case.holds.now case.chains.now case.subject.now.classes case.plan.limit case.plan.times case.asked.now c.args.found.patterns.items
    c.args.found.verdicts.items c.in_ok-netlists.netlists c.in_ok-test.test c.in_ok-said.said c.in_ok-files.files c.in_ok-files.ensures c.in_ok-netlists.ensures c.in_ok-test.ensures
    c.in_ok-said.ensures.said c.in_ok-said.ensures.counted c.requires.scanned
