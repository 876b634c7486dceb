use Rattle.std.proofs.Common.{arith, ◌∙◌}
use Rattle.check_parts.proofs.RowLemmas.{spot_is, spot_small, spot_within}
use Rattle.check_parts.proofs.firsts.spot_of.Goals as goal

pub overflow_add-result : goal.overflow_add-result
overflow_add-result c =
    let n = c.args.netlist.now in
    let is = spot_is n c.sound.ensures c.faults_have_lines.ensures c.faults_have_signals.ensures c.args.starts.now c.index.result c.offset_of.result c.args.fault.now c.requires.starts c.requires.member
    (c.index.ensures ∙ c.signal_of.ensures) c.offset_of.ensures in
    let small = spot_small n c.sound.ensures c.faults_have_lines.ensures c.faults_have_signals.ensures c.args.fault.now c.requires.member in
    omega arith

pub returns-clause-spot : goal.returns-clause-spot
returns-clause-spot c =
    spot_is c.args.netlist.now c.sound.ensures c.faults_have_lines.ensures c.faults_have_signals.ensures c.args.starts.now c.index.result c.offset_of.result c.args.fault.now c.requires.starts c.requires.member
    (c.index.ensures ∙ c.signal_of.ensures) c.offset_of.ensures

pub returns-clause-within : goal.returns-clause-within
returns-clause-within c =
    let n = c.args.netlist.now in
    let is = spot_is n c.sound.ensures c.faults_have_lines.ensures c.faults_have_signals.ensures c.args.starts.now c.index.result c.offset_of.result c.args.fault.now c.requires.starts c.requires.member
    (c.index.ensures ∙ c.signal_of.ensures) c.offset_of.ensures in
    let lt = spot_within n c.sound.ensures c.faults_have_lines.ensures c.faults_have_signals.ensures c.args.fault.now c.requires.member in
    omega arith
