use Rattle.std.proofs.Common.{◌≡◌, ◌≤◌, ◌<◌, List, Option, Some, None, length, sym, ◌∙◌, ap, subst, arith}
use Rattle.std.specs.List.{All, flat_map}
use Rattle.statement.specs.declared.lines.Fault.{Fault}
use Rattle.netlist.specs.Holds.{AreHoldsOf}
use Rattle.netlist.specs.Lines.{IsLineOf}
use Rattle.statement.specs.Netlists.{Netlist, signals}
use Rattle.tri.specs.declared.labels.Label.{Label}
use Rattle.events.specs.declared.trails.Change.{Change}
use Rattle.events.specs.Stuck.{IsObservedOnly}
use Rattle.label_events.specs.Lines.{AgreeOnOtherLines}
use Rattle.label_events.proofs.Changing.{same_off_back}
use Rattle.observed_points.specs.Points.{ArePoints}
use Rattle.pair_sim.specs.inner.Levels.{blank}
use Rattle.pair_sim.specs.inner.Reach.{reached_one}
use Rattle.pair_sim.proofs.Counts.{length_once}
use Rattle.pair_sim.proofs.Faulting.{replaced}
use Rattle.pair_sim.proofs.steps.replace_fault.Goals as goal

pub put_fault-requires-clause-same : goal.put_fault-requires-clause-same
put_fault-requires-clause-same c = subst (λ (o : Option Fault). AgreeOnOtherLines c.args.last.now.line o None) (sym c.requires.last) (same_off_back c.args.last.now)

pub set_fault-requires-clause-line : goal.set_fault-requires-clause-line
set_fault-requires-clause-line c = subst (λ (n : Netlist). IsLineOf n c.args.fault.now.line) (sym c.put_fault.ensures.netlist) c.requires.line

pub set_fault-requires-clause-holds : goal.set_fault-requires-clause-holds
set_fault-requires-clause-holds c = subst (λ (n : Netlist). AreHoldsOf n c.args.holds.now) (sym c.put_fault.ensures.netlist) c.requires.holds

pub note-requires-clause-points : goal.note-requires-clause-points
note-requires-clause-points c =
    let same : c.netlist.result.now ≡ c.args.events.now.netlist = c.netlist.ensures ∙ (c.core.ensures ∙ (c.set_fault.ensures.netlist ∙ c.put_fault.ensures.netlist)) in
    let p = c.args.reach.now.points in
    subst (λ (n : Netlist). ArePoints n p.seen.items p.first.items p.numbers.items) (sym same) c.requires.points

pub note-requires-clause-line : goal.note-requires-clause-line
note-requires-clause-line c =
    let same : c.netlist.result.now ≡ c.args.events.now.netlist = c.netlist.ensures ∙ (c.core.ensures ∙ (c.set_fault.ensures.netlist ∙ c.put_fault.ensures.netlist)) in
    subst (λ (n : Netlist). IsLineOf n c.args.fault.now.line) (sym same) c.requires.line

pub note-requires-clause-within : goal.note-requires-clause-within
note-requires-clause-within c =
    let s = c.set_fault.new.events in
    subst (λ (t : List (Change Label)). All (λ (d : Change Label). d.signal < length c.values.result.now) t) (sym c.trail.ensures.trail)
    (subst (λ (vs : List Label). All (λ (d : Change Label). d.signal < length vs) s.trail) (sym c.values.ensures.values) c.trail.ensures.standing.within)

pub note-requires-clause-size : goal.note-requires-clause-size
note-requires-clause-size c =
    ap length c.values.ensures.values ∙ (c.values.ensures.standing.size ∙ ap (λ (n : Netlist). length (signals n)) (sym (c.netlist.ensures ∙ c.core.ensures)))

pub note-requires-clause-room : goal.note-requires-clause-room
note-requires-clause-room c =
    let s = c.set_fault.new.events in
    let w = c.set_fault.ensures in
    let same : length (signals s.netlist) ≡ length (signals c.args.events.now.netlist) = ap (λ (n : Netlist). length (signals n)) (c.set_fault.ensures.netlist ∙ c.put_fault.ensures.netlist) in
    let size = c.values.ensures.standing.size in
    let once : length s.trail ≤ length (signals s.netlist) =
    length_once (length (signals s.netlist)) s.trail (λ d m. let a = (w.are_changes.before d blank m).0 in let b = w.are_changes.size in omega arith) w.are_changes.once in
    let t = ap length c.trail.ensures.trail in
    let r = c.requires.reach_room in
    omega arith

pub returns : goal.returns
returns c =
    let p = c.args.reach.now.points in
    replaced c.args.holds.now c.args.fault.now c.args.labelling.now c.put_fault.new.labelling c.set_fault.new.labelling c.args.reach.now c.note.new.self
    c.args.events.now c.put_fault.new.events c.set_fault.new.events c.forget.new.self c.put_fault.ensures c.set_fault.ensures c.forget.ensures
    c.note.ensures.points
    (λ k only. c.note.ensures.known k (subst (λ (n : Netlist). IsObservedOnly n c.args.fault.now.line) (sym (c.netlist.ensures ∙ c.core.ensures)) only))
    (c.note.ensures.signals
    ∙ (ap (λ (vs : List Label). flat_map (reached_one p.first.items (length p.seen.items) vs) c.trail.result.now) c.values.ensures.values
    ∙ ap (λ (t : List (Change Label)). flat_map (reached_one p.first.items (length p.seen.items) c.set_fault.new.events.values) t) c.trail.ensures.trail))
    c.note.ensures.room
