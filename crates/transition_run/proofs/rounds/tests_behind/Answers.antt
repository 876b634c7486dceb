use Rattle.std.proofs.Common.{refl}
use Rattle.transition_run.proofs.RoundLemmas.{answers_count, both_known}
use Rattle.transition_run.proofs.rounds.tests_behind.Goals as goal

pub all_answers-answers-requires-clause-found : goal.all_answers-answers-requires-clause-found
all_answers-answers-requires-clause-found g c =
    let l = c.args.lines.now in
    let b = c.requires.1.0 in
    let left = c.args.behind.left.items in
    let found = c.args.behind.found.items in
    answers_count l.core.now l.holds.now l.limit g.refutes c.args.behind.patterns.items b.searched left c.as_slice.result.now found found b.answers b.by refl c.as_slice.ensures.value

pub all_answers-answers-requires-clause-more : goal.all_answers-answers-requires-clause-more
all_answers-answers-requires-clause-more g c =
    let l = c.args.lines.now in
    let b = c.requires.1.0 in
    let left = c.args.behind.left.items in
    let more = c.args.more.items in
    answers_count l.core.now l.holds.now l.limit g.refutes c.args.behind.patterns.items c.args.behind.rest.items left c.as_slice.result.now more more c.requires.1.1 b.by refl
    c.as_slice.ensures.value

pub tests_of-requires : goal.tests_of-requires
tests_of-requires g c =
    let l = c.args.lines.now in
    let b = c.requires.1.0 in
    let known = both_known l.core.now l.holds.now l.limit g.refutes c.args.behind.patterns.items c.args.behind.left.items c.as_slice.result.now c.args.behind.rest.items
    c.args.behind.found.items c.args.more.items c.all_answers-answers.result.items b c.requires.1.1 c.as_slice.ensures.value c.all_answers-answers.ensures in
    (c.requires.0, (b.obey, (b.few, known)))
