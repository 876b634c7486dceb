use Rattle.std.proofs.Common.{◌≡◌, List, [], length, Some, Option, sym, ◌∙◌, ap, subst, vec_capacity, arith}
use Rattle.std.proofs.lemmas.Bool.{both_ways}
use Rattle.statement.specs.declared.lines.Fault.{Fault}
use Rattle.statement.specs.Netlists.{Netlist, signals}
use Rattle.netlist.proofs.Placed.{signals_length}
use Rattle.tri.specs.declared.labels.Label.{Label}
use Rattle.tri.specs.Labels.{Decisions}
use Rattle.tri.specs.Labelling.{AreLabelled, decided_in}
use Rattle.tri.specs.Paths.{decisions}
use Rattle.observed_points.specs.Points.{ArePoints}
use Rattle.pair_sim.proofs.StoreLemmas.{stored_first}
use Rattle.pair_sim.proofs.sims.started.Goals as goal

pub invariant_of-result : goal.invariant_of-result
invariant_of-result c =
    let f = c.args.fault.now in
    let n = c.args.core.now in
    let holds = c.args.holds.now in
    let l = c.in_ok-labelling.labelling in
    let e = c.in_ok-events.events in
    let netlist : e.netlist ≡ n = c.in_ok-events.ensures.0 in
    let none : decided_in l.decided.items ≡ decisions [] = λ j x. c.in_ok-labelling.ensures.free x j in
    let are : AreLabelled (Some f) (decisions []) e.netlist holds e.values =
    subst (λ (m : Netlist). AreLabelled (Some f) (decisions []) m holds e.values) (sym netlist)
    (subst (λ (vs : List Label). AreLabelled (Some f) (decisions []) n holds vs) (sym c.in_ok-events.ensures.1)
    (subst (λ (p : Decisions). AreLabelled (Some f) p n holds c.in_ok-values.values.items) none
    (subst (λ (o : Option Fault). AreLabelled o (decided_in l.decided.items) n holds c.in_ok-values.values.items) c.in_ok-labelling.ensures.fault c.in_ok-values.ensures))) in
    let same : length (signals e.netlist) ≡ length (signals n) = ap (λ (m : Netlist). length (signals m)) netlist in
    let a = ap length (c.inputs.ensures ∙ ap (λ (m : Netlist). m.inputs) c.netlist-netlist.ensures) in
    let b = ap length (c.definitions.ensures ∙ ap (λ (m : Netlist). m.definitions) c.netlist-netlist.ensures) in
    let all = signals_length n in
    let changes = c.in_ok-events.ensures.3 in
    let levels = c.in_ok-levels.ensures.capacity in
    let names = c.in_ok-names.ensures.capacity in
    let p = c.in_ok-reach.reach.points in (
      stored_first f holds l.fault l.decided.items c.in_ok-levels.levels.items c.in_ok-names.names.items e (vec_capacity c.in_ok-levels.levels) (vec_capacity c.in_ok-names.names)
          c.in_ok-labelling.ensures.fault (c.in_ok-labelling.ensures.size ∙ sym same) c.in_ok-labelling.ensures.free are
          c.in_ok-events.ensures.2 c.in_ok-levels.ensures.items c.in_ok-names.ensures.items (omega arith) (omega arith) (omega arith),
      record {
        points_are = subst (λ (m : Netlist). ArePoints m p.seen.items p.first.items p.numbers.items) (sym netlist) c.in_ok-reach.ensures.points;
        reached = λ h. absurd (both_ways c.in_ok-reach.reach.known c.in_ok-reach.ensures.known h);
        room_is = (let r = c.in_ok-reach.ensures.room in omega arith);
      },
    )
