use Rattle.std.proofs.Common.{◌≡◌, ◌∙◌, List, ℕ, length, map, ap, sym, subst}
use Rattle.statement.specs.Netlists.{Netlist, signals}
use Rattle.netlist.specs.Settled.{at}
use Rattle.events.specs.Standing.{Standing}
use Rattle.observed_points.specs.Points.{ArePoints}
use Rattle.transition_sim.specs.inner.Launches.{inputs_again, state_after}
use Rattle.transition_sim.proofs.FrameWords.{driven_behind, driven_frame}
use Rattle.transition_sim.proofs.launching.next_frame.Goals as goal

pub state_words-requires-clause-points : goal.state_words-requires-clause-points
state_words-requires-clause-points c =
    let points = c.args.points.now in
    subst (λ (m : Netlist). ArePoints m points.seen.items points.first.items points.numbers.items) (sym c.netlist-netlist.ensures) c.requires.points

pub state_words-requires-clause-size : goal.state_words-requires-clause-size
state_words-requires-clause-size c =
    ap length c.values-2.ensures.values ∙ (c.values-2.ensures.standing.size ∙ ap (λ (m : Netlist). length (signals m)) (c.requires.first ∙ sym c.netlist-netlist.ensures))

pub returns-clause-second : goal.returns-clause-second
returns-clause-second c =
    driven_frame c.args.core.now c.args.second.now c.drive.new.self c.deref.result.now c.deref-2.result.now c.requires.second c.drive.ensures.settles
    (ap (λ (s : Standing ℕ). s.netlist) c.drive.ensures.same)

pub returns-clause-behind : goal.returns-clause-behind
returns-clause-behind c =
    let n = c.args.core.now in
    let first = c.args.first.now.values in
    let inputs : c.deref.result.now ≡ inputs_again n first =
    c.deref.ensures.value ∙ (c.in_ok-inputs.ensures ∙ (ap (λ (xs : List ℕ). map (at xs 0) c.inputs.result.now) c.values.ensures.values
    ∙ ap (λ (xs : List ℕ). map (at first 0) xs) (c.inputs.ensures ∙ ap (λ (m : Netlist). m.inputs) c.netlist-netlist.ensures))) in
    let state : c.deref-2.result.now ≡ state_after n first =
    c.deref-2.ensures.value ∙ (c.in_ok-state.ensures ∙ (ap (λ (xs : List ℕ). state_after c.netlist-netlist.result.now xs) c.values-2.ensures.values
    ∙ ap (λ (m : Netlist). state_after m first) c.netlist-netlist.ensures)) in
    driven_behind n first c.args.second.now c.drive.new.self c.deref.result.now c.deref-2.result.now c.requires.second c.drive.ensures.settles
    (ap (λ (s : Standing ℕ). s.netlist) c.drive.ensures.same) (ap (λ (s : Standing ℕ). s.trail) c.drive.ensures.same) inputs state
