use Rattle.netlist_calls.proofs.faults.listed.Goals as goal

pub returns : goal.returns
returns c = c.faults_have_lines.ensures c.args.netlist.now c.in_ok-fault.fault c.sound.ensures c.in_ok-fault.ensures.0
