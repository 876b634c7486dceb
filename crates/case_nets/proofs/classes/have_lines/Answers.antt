use Rattle.case_nets.proofs.LineLemmas.{have_lines}
use Rattle.case_nets.proofs.classes.have_lines.Goals as goal

pub returns : goal.returns
returns c = have_lines c.faults_have_lines.ensures c.args.netlist.now c.sound.ensures c.args.classes.now c.requires
