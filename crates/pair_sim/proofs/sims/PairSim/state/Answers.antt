use Rattle.std.proofs.Common.{◌≡◌, ◌<◌, false, length, sym, ◌∙◌, ap, subst, reverse, Some, List, Option}
use Rattle.std.specs.List.{All}
use Rattle.netlist.specs.Conditions.{IsSound}
use Rattle.statement.specs.declared.lines.Fault.{Fault}
use Rattle.statement.specs.Netlists.{Netlist}
use Rattle.netlist.specs.Settled.{at}
use Rattle.statement.specs.Values.{outs, next}
use Rattle.tri.specs.declared.labels.Label.{Label}
use Rattle.tri.specs.Labels.{labels}
use Rattle.tri.specs.Paths.{decisions}
use Rattle.pair_sim.specs.declared.levels.Level.{Level}
use Rattle.pair_sim.specs.Sims.{Sim, IsState}
use Rattle.pair_sim.specs.inner.Levels.{blank, path_of, is_contradicted}
use Rattle.pair_sim.specs.inner.Points.{IsStateOf}
use Rattle.pair_sim.specs.inner.Reach.{IsStateInView}
use Rattle.pair_sim.proofs.Reaching.{reached_within, few_points}
use Rattle.pair_sim.proofs.StateLemmas.{state_is, state_in_view_is}
use Rattle.pair_sim.proofs.sims.PairSim.state.Goals as goal

pub returns : goal.returns
returns c =
    let i = c.self.inside in
    let path = decisions (path_of (reverse i.levels.items)) in
    let netlist = c.netlist-netlist.ensures ∙ c.core.ensures in
    let of : IsStateOf c.is_contradicted-contradicted.result (outs (labels (Some i.fault) path) i.events.netlist (at i.events.values blank)) (next (labels (Some i.fault) path) i.events.netlist (at i.events.values blank)) c.state_of.result =
    subst (λ (n : Netlist). IsStateOf c.is_contradicted-contradicted.result (outs (labels (Some i.fault) path) n (at i.events.values blank)) (next (labels (Some i.fault) path) n (at i.events.values blank)) c.state_of.result) netlist
    (subst (λ (vs : List Label). IsStateOf c.is_contradicted-contradicted.result (outs (labels (Some i.fault) path) c.netlist-netlist.result.now (at vs blank)) (next (labels (Some i.fault) path) c.netlist-netlist.result.now (at vs blank)) c.state_of.result) c.values-2.ensures.values
    (subst (λ (f : Option Fault). IsStateOf c.is_contradicted-contradicted.result (outs (labels f path) c.netlist-netlist.result.now (at c.values-2.result.now blank)) (next (labels f path) c.netlist-netlist.result.now (at c.values-2.result.now blank)) c.state_of.result) c.self.invariant.0.fault
    (c.state_of.ensures path))) in
    subst (λ (s : Sim). IsState s c.state_of.result) c.self.view_is
    (state_is i.fault i.events.netlist i.holds.now i.labelling.decided.items i.levels.items i.names.items i.events.values i.events.trail c.self.invariant.0.kept
    c.is_contradicted-contradicted.result c.state_of.result (c.is_contradicted-contradicted.ensures ∙ ap (λ (vs : List Level). is_contradicted (reverse vs)) c.deref.ensures.value) of)

pub state_in_view-requires-clause-within : goal.state_in_view-requires-clause-within
state_in_view-requires-clause-within c =
    let i = c.self.inside in
    let p = c.self.inside.reach.points in
    let sound : IsSound i.events.netlist = subst IsSound (c.netlist-netlist.ensures ∙ c.core.ensures) c.sound.ensures in
    subst (λ (vs : List Label). All (λ x. x < length vs) i.reach.signals.items) (sym c.values.ensures.values)
    (reached_within i.events.netlist sound p.seen.items p.first.items p.numbers.items c.self.invariant.1.points_are i.fault i.holds.now i.reach.signals.items (length i.events.values)
    (c.self.invariant.1.reached c.if-self.true) c.self.invariant.0.kept.labelled.size)

pub state_in_view-requires-clause-few : goal.state_in_view-requires-clause-few
state_in_view-requires-clause-few c =
    let i = c.self.inside in
    let p = c.self.inside.reach.points in
    let sound : IsSound i.events.netlist = subst IsSound (c.netlist-netlist.ensures ∙ c.core.ensures) c.sound.ensures in
    few_points i.events.netlist sound p.seen.items p.first.items p.numbers.items c.self.invariant.1.points_are

pub returns-then-not-contradicted : goal.returns-then-not-contradicted
returns-then-not-contradicted c =
    let i = c.self.inside in
    let p = c.self.inside.reach.points in
    let ids = c.self.inside.reach.signals.items in
    let state = c.state_in_view.result in
    let sound : IsSound i.events.netlist = subst IsSound (c.netlist-netlist.ensures ∙ c.core.ensures) c.sound.ensures in
    let possible : is_contradicted (reverse i.levels.items) ≡ false =
    sym (ap (λ (vs : List Level). is_contradicted (reverse vs)) c.deref.ensures.value) ∙ (sym c.is_contradicted-contradicted.ensures ∙ c.if-not-contradicted.true) in
    let seen : IsStateInView i.events.netlist p.first.items (length p.seen.items) i.events.values ids state =
    subst (λ (n : Netlist). IsStateInView n p.first.items (length p.seen.items) i.events.values ids state) (c.netlist-netlist.ensures ∙ c.core.ensures)
    (subst (λ (vs : List Label). IsStateInView c.netlist-netlist.result.now p.first.items (length p.seen.items) vs ids state) c.values.ensures.values c.state_in_view.ensures) in
    subst (λ (s : Sim). IsState s state) c.self.view_is
    (state_in_view_is i.fault i.events.netlist i.holds.now i.labelling.decided.items i.levels.items i.names.items i.events.values i.events.trail c.self.invariant.0.kept sound
    p.seen.items p.first.items p.numbers.items c.self.invariant.1.points_are ids (c.self.invariant.1.reached c.if-self.true) possible state seen)
