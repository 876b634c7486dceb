use Rattle.transition_sim.specs.Shown.{ShowsFrames}
use Rattle.check_parts.proofs.EndLemmas.{found_so, none_found}
use Rattle.slow_check.proofs.EvidentLemmas.{formed}
use Rattle.slow_check.proofs.evident.first_ends.Goals as goal

pub returns-in_default : goal.returns-in_default
returns-in_default c =
    let t = c.args.walk.now.trial.now in
    none_found (ShowsFrames t.netlist.now t.holds.now c.args.fault.now) t.evidence.now c.args.fault.now c.in_default.ensures

pub ends_of-requires-clause-line : goal.ends_of-requires-clause-line
ends_of-requires-clause-line c = c.faults_have_lines.ensures c.args.walk.now.trial.now.netlist.now c.args.fault.now c.requires.ready.trial.sound c.requires.member

pub ends_of-requires-clause-formed : goal.ends_of-requires-clause-formed
ends_of-requires-clause-formed c =
    let t = c.args.walk.now.trial.now in
    formed t.netlist.now t.evidence.now c.args.fault.now c.in-Some.place c.index-evidence-place.result c.in-Some.ensures c.requires.ready.trial.evidence

pub returns : goal.returns
returns c =
    let t = c.args.walk.now.trial.now in
    found_so t.evidence.now c.args.fault.now c.in-Some.place c.index-evidence-place.result c.in-Some.ensures (ShowsFrames t.netlist.now t.holds.now c.args.fault.now) c.ends_of.result c.ends_of.ensures
