use Rattle.std.proofs.Common.{◌≡◌, ◌∙◌, ℕ, Bool, List, Option, ap, length, map, subst, sym}
use Rattle.std.specs.List.{All, AllZip}
use Rattle.statement.specs.declared.lines.Fault.{Fault}
use Rattle.netlist.specs.Lines.{IsLineOf}
use Rattle.statement.specs.declared.lines.Point.{Point}
use Rattle.word_sim.specs.Hits.{LastDetected}
use Rattle.word_sim.specs.Never.{AreNever, unmarked}
use Rattle.file_check.specs.inner.Findings.{is_closed}
use Rattle.file_check.specs.inner.Trials.{test_of}
use Rattle.file_check.proofs.FindingLemmas.{have_lines, never_closed}
use Rattle.file_check.proofs.findings.lasts_of.Goals as goal

pub unmarked-requires : goal.unmarked-requires
unmarked-requires c =
    let shut = never_closed (test_of c.args.trial.now) c.args.classes.now c.args.ends.now c.requires.trial c.shown_is_redundant.ensures c.requires.ends in
    record { size = ap length (c.deref.ensures.value ∙ c.in_ok-closed.ensures) ∙ (shut.size ∙ ap length (sym c.representatives.ensures)) }

pub last_tells-requires-clause-lines : goal.last_tells-requires-clause-lines
last_tells-requires-clause-lines c =
    let n = c.args.trial.now.core.now in
    let all = have_lines n c.requires.trial.sound c.faults_have_lines.ensures c.args.classes.now c.requires.classes in
    let mine = subst (λ (fs : List Fault). All (λ (f : Fault). IsLineOf n f.line) fs) (sym c.representatives.ensures) all in
    subst (λ (fs : List Fault). All (λ (f : Fault). IsLineOf n f.line) fs) (sym c.deref-2.ensures.value) (c.in_ok-left.ensures.lines n mine)

pub returns : goal.returns
returns c =
    let t = test_of c.args.trial.now in
    let fs = c.args.classes.now.representatives in
    let marks : c.deref-3.result.now ≡ map is_closed c.args.ends.now = c.deref-3.ensures.value ∙ c.in_ok-closed.ensures in
    let shut = never_closed t c.args.classes.now c.args.ends.now c.requires.trial c.shown_is_redundant.ensures c.requires.ends in
    let never = subst (λ (ms : List Bool). AreNever t.netlist t.patterns fs ms) (sym marks) shut in
    let left : c.deref-2.result.now ≡ unmarked c.deref-3.result.now fs =
    c.deref-2.ensures.value ∙ (c.in_ok-left.ensures.exactly
    ∙ (ap (λ (ms : List Bool). unmarked ms c.representatives.result.now) (c.deref.ensures.value ∙ sym c.deref-3.ensures.value)
    ∙ ap (λ (gs : List Fault). unmarked c.deref-3.result.now gs) c.representatives.ensures)) in
    let told = subst (λ (os : List (Option (ℕ × Point))). AllZip (LastDetected t.netlist t.patterns) (unmarked c.deref-3.result.now fs) os) (sym c.deref-4.ensures.value)
    (subst (λ (gs : List Fault). AllZip (LastDetected t.netlist t.patterns) gs c.in_ok-told.told.items) left c.in_ok-told.ensures) in
    record { each = c.in_ok-lasts.ensures t.netlist t.patterns fs never told }
