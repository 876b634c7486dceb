use Rattle.std.proofs.Common.{◌^◌, ◌-◌, ◌∙◌, ℕ, MatchBool, List, ap, arith, length, min, subst, sym}
use Rattle.std.specs.List.{All}
use Rattle.statement.specs.declared.lines.Fault.{Fault}
use Rattle.netlist.specs.Lines.{IsLineOf}
use Rattle.file_check.specs.inner.Times.{AreOfClasses}
use Rattle.file_check.proofs.FindingLemmas.{have_lines}
use Rattle.file_check.proofs.TimesLemmas.{by_classes, counted_of, numbers_within}
use Rattle.file_check.proofs.times.are_counted.Goals as goal

pub times_of-requires-clause-lines : goal.times_of-requires-clause-lines
times_of-requires-clause-lines c =
    let n = c.args.trial.now.core.now in
    subst (λ (fs : List Fault). All (λ (f : Fault). IsLineOf n f.line) fs) (sym c.representatives-representatives.ensures)
    (have_lines n c.requires.trial.sound c.faults_have_lines.ensures c.args.subject.now.classes c.requires.subject.classes)

pub are_of_classes-requires-clause-within : goal.are_of_classes-requires-clause-within
are_of_classes-requires-clause-within c =
    let n = c.args.trial.now.core.now in
    let ps = c.args.trial.now.patterns.now in
    let classes = c.args.subject.now.classes in
    numbers_within n ps c.counted_to-most.result classes c.deref.result.now c.requires.subject.classes
    (counted_of n c.counted_to-most.result ps c.representatives-representatives.result.now classes.representatives c.in_ok-times.times.items c.deref.result.now
    c.representatives-representatives.ensures c.deref.ensures.value c.in_ok-times.ensures)

pub returns : goal.returns
returns c =
    let n = c.args.trial.now.core.now in
    let ps = c.args.trial.now.patterns.now in
    let classes = c.args.subject.now.classes in
    let said = c.args.said.now in
    let counted = counted_of n c.counted_to-most.result ps c.representatives-representatives.result.now classes.representatives c.in_ok-times.times.items c.deref.result.now
    c.representatives-representatives.ensures c.deref.ensures.value c.in_ok-times.ensures in
    let faults = ap length c.requires.subject.faults in
    by_classes n c.requires.trial.sound ps (2 ^ 32 - 1) said.most c.counted_to-most.result (c.counted_to-most.ensures ∙ ap (λ (m : ℕ). min m (2 ^ 32 - 1)) c.most.ensures) (omega arith)
    c.detected_alike.ensures c.times_alike.ensures c.times_once.ensures classes c.requires.subject.classes c.deref.result.now counted
    said.of c.len-count.result (omega arith) c.requires.some (omega arith) c.are_of_classes.result
    (subst (λ (s : List ℕ). MatchBool c.are_of_classes.result (AreOfClasses classes c.deref.result.now s c.len-count.result) (¬ AreOfClasses classes c.deref.result.now s c.len-count.result))
    c.of.ensures c.are_of_classes.ensures)
