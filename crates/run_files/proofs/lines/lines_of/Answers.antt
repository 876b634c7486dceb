use Rattle.std.proofs.Common.{List, length, subst, sym}
use Rattle.std.specs.List.{All}
use Rattle.statement.specs.Faults.{universe_of}
use Rattle.list_core.specs.declared.verdicts.Verdict.{Verdict}
use Rattle.run_files.specs.inner.Outcomes.{AreLines}
use Rattle.run_files.specs.inner.Verdicts.{IsInside}
use Rattle.run_files.proofs.PointLemmas.{all_inside, all_sound}
use Rattle.run_files.proofs.lines.lines_of.Goals as goal

pub lines_within-requires-clause-inside : goal.lines_within-requires-clause-inside
lines_within-requires-clause-inside c =
    let n = c.args.case.now.netlist.now in
    let found = c.args.found.now in
    subst (λ (vs : List Verdict). All (IsInside n) vs) (sym c.as_slice.ensures.value)
    (all_inside n c.sound.ensures c.args.case.now.holds.now c.args.case.now.subject.now.classes.representatives c.args.case.now.plan.limit found.patterns.items found.verdicts.items
    c.requires.found.verdicts)

pub returns-clause-lines : goal.returns-clause-lines
returns-clause-lines c =
    let case = c.args.case.now in
    let n = case.netlist.now in
    subst (λ (vs : List Verdict). AreLines n case.chains.now case.subject.now.classes.numbers case.asked.now vs (length (universe_of n)) c.in_ok-lines.lines) c.as_slice.ensures.value
    c.in_ok-lines.ensures

pub returns-clause-sound : goal.returns-clause-sound
returns-clause-sound c =
    let case = c.args.case.now in
    all_sound case.netlist.now case.chains.now case.subject.now.classes.numbers case.asked.now c.as_slice.result.now c.in_ok-lines.lines c.in_ok-lines.ensures
