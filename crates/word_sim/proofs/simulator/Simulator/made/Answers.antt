use Rattle.std.proofs.Common.{◌∙◌, sym, subst}
use Rattle.statement.specs.Netlists.{Netlist}
use Rattle.observed_points.specs.Points.{ArePoints}
use Rattle.word_sim.specs.inner.Groups.{HasRoom}
use Rattle.word_sim.specs.inner.Packed.{AreSettledWords}
use Rattle.word_sim.proofs.simulator.Simulator.made.Goals as goal

pub invariant_of-result : goal.invariant_of-result
invariant_of-result c =
    let good = c.in_ok-events.ensures.good in
    let settled : AreSettledWords c.args.core.now c.in_ok-events.events.values = record { inputs = good.inputs; state = good.state; settles = good.settles } in
    record {
      settled = subst (λ (m : Netlist). AreSettledWords m c.in_ok-events.events.values) (sym c.in_ok-events.ensures.netlist) settled;
      beside = tt;
      points_are = subst (λ (m : Netlist). ArePoints m c.in_ok-points.points.seen.items c.in_ok-points.points.first.items c.in_ok-points.points.numbers.items) (sym c.in_ok-events.ensures.netlist) c.in_ok-points.ensures;
      room = subst (λ (m : Netlist). HasRoom m c.in_ok-groups.groups.paths.heads.items c.in_ok-groups.groups.paths.opens.items) (c.netlist.ensures ∙ sym c.in_ok-events.ensures.netlist) c.in_ok-groups.ensures;
    }
