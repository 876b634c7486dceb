use Rattle.std.proofs.Common.{List, ap, subst, sym, take, length, ◌<◌, ◌^◌, ◌≡◌, ◌∙◌}
use Rattle.statement.specs.declared.lines.Fault.{Fault}
use Rattle.statement.specs.Faults.{universe_of}
use Rattle.good_files.specs.GoodFiles.{faults_in}
use Rattle.check_parts.specs.Strays.{IsStrayAt}
use Rattle.good_slow_files.specs.GoodSlowFiles.{slow_left_of}
use Rattle.slow_check.specs.inner.Trials.{slow_test_of}
use Rattle.slow_check.proofs.FaultLemmas.{all_true, few_of, line_signal, stray_named}
use Rattle.slow_check.proofs.faults.stray_fault.Goals as goal

pub left_of-requires-clause-few : goal.left_of-requires-clause-few
left_of-requires-clause-few c =
    subst (λ (fs : List Fault). length fs < 2 ^ 32) (sym c.requires.ready.faults)
    (few_of c.few_faults.ensures c.args.walk.now.trial.now.netlist.now c.requires.ready.trial.sound c.requires.ready.trial.design)

pub left_of-requires-clause-size : goal.left_of-requires-clause-size
left_of-requires-clause-size c = c.requires.lines.no_more ∙ ap length (sym c.requires.ready.faults)

pub returns-in-None : goal.returns-in-None
returns-in-None c =
    let w = c.args.walk.now in
    let t = slow_test_of w.trial.now in
    let is = c.deref.ensures.value ∙ (c.in_ok-left.ensures ∙ ap (λ (fs : List Fault). slow_left_of fs w.lines.now) c.requires.ready.faults) in
    let same : take (length t.evidence) (slow_left_of (universe_of t.netlist) w.lines.now) ≡ faults_in t.evidence =
    subst (λ (fs : List Fault). take (length t.evidence) fs ≡ faults_in t.evidence) is c.in-None.ensures in
    all_true t c.requires.ready.trial.sound w.lines.now c.requires.lines same

pub text_of-requires : goal.text_of-requires
text_of-requires c =
    let w = c.args.walk.now in
    let t = slow_test_of w.trial.now in
    line_signal t.netlist c.requires.ready.trial.sound c.faults_have_signals.ensures t.evidence c.requires.ready.trial.evidence c.in-Some.place c.index-evidence-place.result c.in-Some.ensures.within

pub returns : goal.returns
returns c =
    let w = c.args.walk.now in
    let t = slow_test_of w.trial.now in
    let is = c.deref.ensures.value ∙ (c.in_ok-left.ensures ∙ ap (λ (fs : List Fault). slow_left_of fs w.lines.now) c.requires.ready.faults) in
    stray_named t w.lines.now c.requires.lines c.in-Some.place c.index-evidence-place.result c.in_ok-text-in-Some.text.items
    (subst (λ (fs : List Fault). IsStrayAt t.evidence fs c.in-Some.place) is c.in-Some.ensures) c.in_ok-text-in-Some.ensures
