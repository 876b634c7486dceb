use Rattle.std.proofs.Common.{List, Bool, ◌∙◌, length, subst, ap}
use Rattle.statement.specs.Faults.{universe_of}
use Rattle.transition.specs.Searches.{AreFoundWhereLeft}
use Rattle.transition_run.proofs.RoundLemmas.{rest_count}
use Rattle.transition_run.proofs.rounds.slow_tests.Goals as goal

pub answers_of-requires-clause-marks : goal.answers_of-requires-clause-marks
answers_of-requires-clause-marks g c κs within = ap length c.as_slice.ensures.value ∙ c.in_ok-drawn.ensures.size

pub rest_behind-requires : goal.rest_behind-requires
rest_behind-requires g c =
    let e = c.args.errand.now in
    let found = subst (λ (marks : List Bool). AreFoundWhereLeft e.core.now e.holds.now c.args.plan.limit g.E.Engine.refutes (universe_of e.core.now) marks c.in_ok-found.found.items)
    c.as_slice.ensures.value c.in_ok-found.ensures in
    (c.requires.lines, (c.in_ok-drawn.ensures, found))

pub answers_of-requires-2-clause-marks : goal.answers_of-requires-2-clause-marks
answers_of-requires-2-clause-marks g c κs within =
    let e = c.args.errand.now in
    let b = c.in_ok-behind.behind in
    ap length c.as_slice-2.ensures.value
    ∙ rest_count e.core.now e.holds.now c.args.plan.limit g.E.Engine.refutes b.patterns.items b.left.items b.found.items b.rest.items c.in_ok-behind.ensures

pub tests_behind-requires : goal.tests_behind-requires
tests_behind-requires g c =
    let e = c.args.errand.now in
    let more = subst (λ (marks : List Bool). AreFoundWhereLeft e.core.now e.holds.now c.args.plan.limit g.E.Engine.refutes (universe_of e.core.now) marks c.in_ok-more.more.items)
    c.as_slice-2.ensures.value c.in_ok-more.ensures in
    (c.requires.lines, (c.in_ok-behind.ensures, more))
