use Rattle.std.proofs.Common.{arith}
use Rattle.transition_tests.proofs.BatchLemmas.{drawn_step, drawn_end}
use Rattle.transition_tests.proofs.dropping.drawn.Goals as goal

pub loop-done-preserved : goal.loop-done-preserved
loop-done-preserved g c =
    drawn_step c.args.count c.loop-done._done c.args.cube.now (g.N.Rng.stream c.loop-done.rng) (g.N.Rng.stream c.fill.new.rng) c.loop-done.patterns.items c.push.new.self.items _
    c.in_ok-pattern.pattern (omega arith) c.loop-done.invariant c.in_ok-pattern.ensures.pattern c.in_ok-pattern.ensures.left c.in_ok-push.ensures.items

pub returns : goal.returns
returns g c = drawn_end c.args.count c.loop-done._done c.args.cube.now _ c.loop-done.patterns.items _ (omega arith) c.loop-done.invariant
