use Rattle.std.proofs.Common.{◌<◌, ◌^◌, List, ap, length, subst, sym, ◌∙◌}
use Rattle.std.specs.List.{All, AllZip}
use Rattle.statement.specs.declared.lines.Fault.{Fault}
use Rattle.statement.specs.Netlists.{Netlist}
use Rattle.statement.specs.Faults.{universe_of}
use Rattle.netlist.specs.Lines.{IsLineOf}
use Rattle.transition_sim.specs.Detections.{LastTransition}
use Rattle.word_sim.specs.Words.{HasWidthsOf}
use Rattle.word_sim.proofs.WidthLemmas.{widths}
use Rattle.slow_check.specs.inner.Trials.{slow_test_of}
use Rattle.slow_check.proofs.FaultLemmas.{few_of, have_lines, of_faults}
use Rattle.slow_check.proofs.findings.findings_of.Goals as goal

pub last_tells2-requires-clause-wide : goal.last_tells2-requires-clause-wide
last_tells2-requires-clause-wide c =
    let t = slow_test_of c.args.trial.now in
    subst (λ (n : Netlist). All (HasWidthsOf n) t.patterns) (sym c.requires.own) (widths t.netlist t.holds t.patterns c.requires.trial.obey)

pub last_tells2-requires-clause-lines : goal.last_tells2-requires-clause-lines
last_tells2-requires-clause-lines c =
    let n = c.args.trial.now.netlist.now in
    subst (λ (m : Netlist). All (λ (f : Fault). IsLineOf m f.line) c.in_ok-faults.faults) (sym c.requires.own)
    (subst (λ (fs : List Fault). All (λ (f : Fault). IsLineOf n f.line) fs) (sym c.in_ok-faults.ensures) (have_lines c.faults_have_lines.ensures n c.requires.trial.sound))

pub last_tells2-requires-clause-few_faults : goal.last_tells2-requires-clause-few_faults
last_tells2-requires-clause-few_faults c =
    subst (λ (fs : List Fault). length fs < 2 ^ 32) (sym c.in_ok-faults.ensures)
    (few_of c.few_faults.ensures c.args.trial.now.netlist.now c.requires.trial.sound c.requires.trial.design)

pub of-requires : goal.of-requires
of-requires c = of_faults c.args.trial.now.netlist.now c.args.trial.now.evidence.now c.requires.trial.evidence

pub returns : goal.returns
returns c =
    let t = slow_test_of c.args.trial.now in
    let told = subst (λ (n : Netlist). AllZip (LastTransition n t.patterns) c.in_ok-faults.faults c.in_ok-lasts.lasts.items) c.requires.own c.in_ok-lasts.ensures in
    record {
      faults = c.in_ok-faults.ensures;
      lasts = record { each = subst (λ (fs : List Fault). AllZip (LastTransition t.netlist t.patterns) fs c.in_ok-lasts.lasts.items) c.in_ok-faults.ensures told };
      firsts = c.in_ok-firsts.ensures;
    }
