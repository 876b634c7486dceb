use Rattle.std.proofs.Common.{subst}
use Rattle.netlist.specs.Conditions.{IsSound}
use Rattle.transition_report.specs.inner.Parts.{IsLineFound}
use Rattle.transition_report.proofs.SlowFaultTexts.{no_slow_cut, no_slow_line, no_slow_word, slow_fault_found}
use Rattle.transition_report.proofs.fault_reading.slow_fault_at.Goals as goal

pub returns-in_default : goal.returns-in_default
returns-in_default c = no_slow_cut c.args.names.now (subst IsSound c.netlist.ensures c.sound.ensures) c.args.line.now c.in_default.ensures

pub returns-in_default-slow_at : goal.returns-in_default-slow_at
returns-in_default-slow_at c =
    no_slow_word c.args.names.now (subst IsSound c.netlist.ensures c.sound.ensures) c.args.line.now c.in-Some.parts.0.now c.in-Some.parts.1.now c.in-Some.ensures c.in_default-slow_at.ensures

pub returns-in_default-2 : goal.returns-in_default-2
returns-in_default-2 c =
    no_slow_line c.args.names.now (subst IsSound c.netlist.ensures c.sound.ensures) c.args.line.now c.in-Some.parts.0.now c.in-Some.parts.1.now c.in-Some.ensures
    (subst (IsLineFound c.args.names.now c.in-Some.parts.0.now) c.in_default-2.is c.in_ok-line.ensures)

pub returns : goal.returns
returns c =
    slow_fault_found c.args.names.now (subst IsSound c.netlist.ensures c.sound.ensures) c.args.line.now c.in-Some.parts.0.now c.in-Some.parts.1.now c.in-Some.ensures
    c.in-Some-2.line c.in-Some-slow_at.value c.in-Some-slow_at.rest.now c.in-Some-slow_at.ensures
    (subst (IsLineFound c.args.names.now c.in-Some.parts.0.now) c.in-Some-2.is c.in_ok-line.ensures)
