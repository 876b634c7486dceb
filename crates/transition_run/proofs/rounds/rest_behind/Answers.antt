use Rattle.transition_run.proofs.RoundLemmas.{answers_count, are_behind, behind_few, cubes_seen, cubes_wide, seen_wide}
use Rattle.transition_run.proofs.rounds.rest_behind.Goals as goal

pub with_tests-requires : goal.with_tests-requires
with_tests-requires g c =
    let l = c.args.lines.now in
    cubes_wide l.core.now l.holds.now l.limit g.refutes c.args.drawn.searched.items c.args.found.items c.as_slice-answers.result.now c.requires.1.1 c.as_slice-answers.ensures.value

pub left_by-requires-clause-wide : goal.left_by-requires-clause-wide
left_by-requires-clause-wide g c =
    let l = c.args.lines.now in
    let fit = cubes_seen l.core.now l.holds.now l.limit g.refutes c.args.drawn.searched.items c.args.found.items c.as_slice-answers.result.now c.requires.1.1 c.as_slice-answers.ensures.value in
    seen_wide l.core.now l.holds.now c.in_ok-patterns.patterns.items c.as_slice-2.result.now c.as_slice-2.ensures.value
    (c.in_ok-patterns.ensures.obey l.core.now l.holds.now c.requires.1.0.obey fit)

pub left_by-requires-clause-count : goal.left_by-requires-clause-count
left_by-requires-clause-count g c =
    let l = c.args.lines.now in
    behind_few l.core.now l.holds.now l.limit g.refutes c.args.drawn.searched.items c.args.drawn.patterns.items c.in_ok-patterns.patterns.items c.as_slice-2.result.now c.args.found.items
    c.as_slice-answers.result.now c.requires.1.0 c.requires.1.1 c.as_slice-answers.ensures.value c.in_ok-patterns.ensures.few c.as_slice-2.ensures.value

pub second_round-requires : goal.second_round-requires
second_round-requires g c =
    let l = c.args.lines.now in
    answers_count l.core.now l.holds.now l.limit g.refutes c.as_slice-2.result.now c.args.drawn.searched.items c.in_ok-left.left.items c.as_slice-3.result.now c.args.found.items
    c.as_slice-answers.result.now c.requires.1.1 c.in_ok-left.ensures c.as_slice-answers.ensures.value c.as_slice-3.ensures.value

pub returns : goal.returns
returns g c =
    let l = c.args.lines.now in
    let fit = cubes_seen l.core.now l.holds.now l.limit g.refutes c.args.drawn.searched.items c.args.found.items c.as_slice-answers.result.now c.requires.1.1 c.as_slice-answers.ensures.value in
    let few = behind_few l.core.now l.holds.now l.limit g.refutes c.args.drawn.searched.items c.args.drawn.patterns.items c.in_ok-patterns.patterns.items c.as_slice-2.result.now
    c.args.found.items c.as_slice-answers.result.now c.requires.1.0 c.requires.1.1 c.as_slice-answers.ensures.value c.in_ok-patterns.ensures.few c.as_slice-2.ensures.value in
    are_behind l.core.now l.holds.now l.limit g.refutes c.args.drawn.searched.items c.in_ok-left.left.items c.as_slice-3.result.now c.in_ok-rest.rest.items c.in_ok-patterns.patterns.items
    c.as_slice-2.result.now c.args.found.items c.as_slice-answers.result.now (c.in_ok-patterns.ensures.obey l.core.now l.holds.now c.requires.1.0.obey fit) few c.in_ok-left.ensures
    c.requires.1.1 c.in_ok-rest.ensures c.as_slice-2.ensures.value c.as_slice-3.ensures.value c.as_slice-answers.ensures.value
