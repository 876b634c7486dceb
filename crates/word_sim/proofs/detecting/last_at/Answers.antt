use Rattle.std.proofs.Common.{◌≡◌, ◌∙◌, List, ℕ, ap, subst, length, get_or, bit_xor, arith}
use Rattle.netlist.specs.Conditions.{IsSound}
use Rattle.netlist.specs.Settled.{at}
use Rattle.word_sim.specs.inner.Differences.{IsSole}
use Rattle.word_sim.proofs.FaultFound.{sole_signal, sole_found}
use Rattle.observed_points.proofs.ObservedPoints.{signal_in}
use Rattle.word_sim.proofs.detecting.last_at.Goals as goal

pub bounds-values-index : goal.bounds-values-index
bounds-values-index c =
    let n = c.args.events.now.netlist in
    let sound : IsSound c.args.events.now.netlist = subst IsSound (c.netlist.ensures ∙ c.core.ensures) c.sound.ensures in
    let w = sole_signal n sound c.args.points.now.seen.items c.args.number c.index-signal.result.now c.args.fault.now.line c.requires.points.seen_is c.requires.read c.index-signal.ensures in
    let low = w.1 in
    let i = c.index.ensures in
    let size = c.values.ensures.standing.size in
    let all = ap (λ (xs : List ℕ). length xs) c.values.ensures.values in
    omega arith

pub offset_bounds-values-index : goal.offset_bounds-values-index
offset_bounds-values-index c =
    let n = c.args.events.now.netlist in
    let sound : IsSound c.args.events.now.netlist = subst IsSound (c.netlist.ensures ∙ c.core.ensures) c.sound.ensures in
    let w = sole_signal n sound c.args.points.now.seen.items c.args.number c.index-signal.result.now c.args.fault.now.line c.requires.points.seen_is c.requires.read c.index-signal.ensures in
    let low = w.1 in
    let small = sound.sized.small in
    let i = c.index.ensures in
    omega arith

pub returns : goal.returns
returns c =
    let n = c.args.events.now.netlist in
    let sound : IsSound c.args.events.now.netlist = subst IsSound (c.netlist.ensures ∙ c.core.ensures) c.sound.ensures in
    let w = sole_signal n sound c.args.points.now.seen.items c.args.number c.index-signal.result.now c.args.fault.now.line c.requires.points.seen_is c.requires.read c.index-signal.ensures in
    let e : get_or c.values.result.now c.index.result 0 ≡ at c.args.events.now.values 0 (signal_in n sound c.args.number) =
    ap (λ (vs : List ℕ). get_or vs c.index.result 0) c.values.ensures.values ∙ ap (λ k. get_or c.args.events.now.values k 0) (c.index.ensures ∙ w.0) in
    let h = subst (λ k. IsSole (bit_xor (get_or c.values.result.now c.index.result 0) k) c.args.marks c.args.number c.last_differing.result) c.known.ensures c.last_differing.ensures in
    sole_found n sound c.args.fault.now c.args.events.now.values c.args.marks c.args.number (get_or c.values.result.now c.index.result 0) c.last_differing.result c.requires.read e h
