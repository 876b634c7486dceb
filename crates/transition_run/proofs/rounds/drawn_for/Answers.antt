use Rattle.std.proofs.Common.{length, ap, arith}
use Rattle.transition_run.proofs.RoundLemmas.{drawn_are, seen_wide}
use Rattle.transition_run.proofs.rounds.drawn_for.Goals as goal

pub left_by-requires-clause-wide : goal.left_by-requires-clause-wide
left_by-requires-clause-wide c =
    let l = c.args.lines.now in
    seen_wide l.core.now l.holds.now c.in_ok-patterns.patterns.items c.as_slice.result.now c.as_slice.ensures.value c.in_ok-patterns.ensures.obey

pub left_by-requires-clause-count : goal.left_by-requires-clause-count
left_by-requires-clause-count c = omega (arith, ap length c.as_slice.ensures.value, c.in_ok-patterns.ensures.count)

pub returns : goal.returns
returns c =
    let l = c.args.lines.now in
    drawn_are l.core.now l.holds.now c.in_ok-patterns.patterns.items c.as_slice.result.now c.in_ok-left.left.items c.as_slice-marks.result.now c.in_ok-searched.searched.items
    c.in_ok-patterns.ensures.obey c.in_ok-patterns.ensures.count c.in_ok-left.ensures c.as_slice-marks.ensures.value c.in_ok-searched.ensures
