use Rattle.std.proofs.Common.{arith}
use Rattle.statement.specs.Patterns.{Obeys}
use Rattle.statement.specs.Runs.{Cycle}
use Rattle.scan_play.specs.Bursts.{cycle_of}
use Rattle.known_tests.proofs.Driven.{each_is, is_at}
use Rattle.known_tests.proofs.obeying.cycles_obey.Goals as goal

pub returns-then-not-cycle_obeys : goal.returns-then-not-cycle_obeys
returns-then-not-cycle_obeys c = λ all.
    let test = c.loop-t-test.true in
    (rw c.if-not-cycle_obeys.true at c.cycle_obeys.ensures)
    (is_at (λ (cycle : Cycle). Obeys c.args.held.now cycle.drive) (cycle_of c.args.burst.now) c.args.burst.now.count all c.loop-t.t (omega (arith, test)))

pub returns : goal.returns
returns c =
    let test = c.loop-t-test.false in
    each_is (λ (cycle : Cycle). Obeys c.args.held.now cycle.drive) (cycle_of c.args.burst.now) c.args.burst.now.count (λ t l. c.loop-t.invariant t (omega (arith, l, test)))
