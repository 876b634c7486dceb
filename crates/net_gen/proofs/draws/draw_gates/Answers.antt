use Rattle.net_gen.specs.Samples.{drawn_gates, after_gates}
use Rattle.net_gen.proofs.DrawLemmas.{gates_first, gates_more, gates_last, after_gates_first, after_gates_more, after_gates_last}
use Rattle.net_gen.proofs.draws.draw_gates.Goals as goal

pub loop-j-init : goal.loop-j-init
loop-j-init g c = record {
  gates = gates_first c.args.count c.args.first (g.R.Rng.stream c.args.rng.now) c.in_ok-gates.gates.items c.in_ok-gates.ensures.items;
  left = after_gates_first c.args.count (g.R.Rng.stream c.args.rng.now);
}

pub loop-j-preserved : goal.loop-j-preserved
loop-j-preserved g c = record {
  gates = gates_more c.args.count c.args.first c.loop-j.j (g.R.Rng.stream c.loop-j.rng) (g.R.Rng.stream c.draw_gate.new.rng) c.loop-j.gates.items
      c.push.new.self.items (drawn_gates c.args.count c.args.first (g.R.Rng.stream c.args.rng.now)) _ c.loop-j-test.true
      c.in_ok-draw_gate.ensures.gate c.in_ok-draw_gate.ensures.left c.in_ok-push.ensures.items c.loop-j.invariant.gates;
  left = after_gates_more c.args.count c.loop-j.j (g.R.Rng.stream c.loop-j.rng) (g.R.Rng.stream c.draw_gate.new.rng)
      (after_gates c.args.count (g.R.Rng.stream c.args.rng.now)) c.loop-j-test.true c.in_ok-draw_gate.ensures.left c.loop-j.invariant.left;
}

pub returns-clause-gates : goal.returns-clause-gates
returns-clause-gates g c =
    gates_last c.args.count c.args.first c.loop-j.j (g.R.Rng.stream c.loop-j.rng) c.loop-j.gates.items
    (drawn_gates c.args.count c.args.first (g.R.Rng.stream c.args.rng.now)) c.loop-j-test.false c.loop-j.invariant.gates

pub returns-clause-left : goal.returns-clause-left
returns-clause-left g c =
    after_gates_last c.args.count c.loop-j.j (g.R.Rng.stream c.loop-j.rng) (after_gates c.args.count (g.R.Rng.stream c.args.rng.now))
    c.loop-j-test.false c.loop-j.invariant.left
