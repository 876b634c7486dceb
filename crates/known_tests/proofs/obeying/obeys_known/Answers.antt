use Rattle.std.proofs.Common.{◌≤◌, length, refl, subst, sym, arith}
use Rattle.std.specs.List.{All}
use Rattle.statement.specs.Patterns.{Obeys}
use Rattle.statement.specs.Runs.{Cycle}
use Rattle.stil_vectors.proofs.FitLemmas.{got_at}
use Rattle.known_tests.proofs.Driven.{all_ended, all_more, not_all}
use Rattle.known_tests.proofs.obeying.obeys_known.Goals as goal

pub returns-then-not-burst_obeys : goal.returns-then-not-burst_obeys
returns-then-not-burst_obeys c = λ all.
    let items = c.bursts-burst-items.result.now in
    let at = got_at items items c.loop-burst.burst-index c.burst-item.result refl c.loop-burst-test.true c.burst-item.is in
    not_all (λ (cycle : Cycle). Obeys c.args.held.now cycle.drive) items c.loop-burst.burst-index c.burst-item.result at
    (rw c.if-not-burst_obeys.true at c.burst_obeys.ensures) (subst (All (λ (cycle : Cycle). Obeys c.args.held.now cycle.drive)) c.bursts-burst-items.ensures all)

pub loop-burst-preserved : goal.loop-burst-preserved
loop-burst-preserved c =
    let items = c.bursts-burst-items.result.now in
    let at = got_at items items c.loop-burst.burst-index c.burst-item.result refl c.loop-burst-test.true c.burst-item.is in
    all_more (λ (cycle : Cycle). Obeys c.args.held.now cycle.drive) items c.loop-burst.burst-index c.burst-item.result at c.loop-burst.invariant
    (rw c.if-not-burst_obeys.false at c.burst_obeys.ensures)

pub returns : goal.returns
returns c =
    let items = c.bursts-burst-items.result.now in
    let test = c.loop-burst-test.false in
    let past : length items ≤ c.loop-burst.burst-index = omega (arith, test) in
    subst (All (λ (cycle : Cycle). Obeys c.args.held.now cycle.drive)) (sym c.bursts-burst-items.ensures)
    (all_ended (λ (cycle : Cycle). Obeys c.args.held.now cycle.drive) items c.loop-burst.burst-index past c.loop-burst.invariant)
