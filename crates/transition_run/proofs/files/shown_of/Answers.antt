use Rattle.std.proofs.Common.{List, subst}
use Rattle.netlist.specs.Conditions.{IsSound}
use Rattle.statement.specs.Patterns.{Pattern}
use Rattle.transition_run.specs.inner.Written.{IsLaunchText}
use Rattle.transition_run.proofs.FileLemmas.{evidence_named, verdicts_count}
use Rattle.transition_run.proofs.files.shown_of.Goals as goal

pub certificate_text-requires-clause-size : goal.certificate_text-requires-clause-size
certificate_text-requires-clause-size c =
    let l = c.args.lines.now in
    verdicts_count l.core.now l.holds.now l.limit c.args.tests.patterns.items c.args.tests.verdicts.items c.requires.tests

pub certificate_text-requires-clause-named : goal.certificate_text-requires-clause-named
certificate_text-requires-clause-named c =
    let l = c.args.lines.now in
    evidence_named c.faults_have_lines.ensures c.faults_have_signals.ensures l.core.now (subst IsSound c.netlist.ensures c.sound.ensures) c.requires.lines.design
    l.holds.now l.limit c.args.tests.patterns.items c.args.tests.verdicts.items c.requires.tests

pub returns : goal.returns
returns c =
    let l = c.args.lines.now in
    record {
      launch = subst (λ (ps : List Pattern). IsLaunchText l.core.now l.holds.now c.args.chains.now ps c.in_ok-stil.stil.items) c.as_slice.ensures.value c.in_ok-stil.ensures;
      certificate_is = c.in_ok-certificate.ensures.text;
      small = c.in_ok-certificate.ensures.small;
    }
