use Rattle.std.proofs.Common.{◌≡◌, ◌+◌, ◌<◌, ◌∙◌, refl, ap, sym, subst, length, arith}
use Rattle.statement.specs.Netlists.{Netlist}
use Rattle.netlist.specs.Conditions.{IsSound}
use Rattle.netlist.proofs.Placed.{signals_length}
use Rattle.observed_points.specs.Points.{point_of, points}
use Rattle.observed_points.proofs.ObservedPoints.{watched_count}
use Rattle.grade.specs.inner.Keys.{AreLeastKeys, IsKeyOf}
use Rattle.grade.proofs.Keyed.{no_keys, one_key, read_signal, signal_inside}
use Rattle.grade.proofs.keys.least_keys.Goals as goal

pub loop-number-init : goal.loop-number-init
loop-number-init c =
    let n = c.args.core.now in
    let made = c.in_ok-keys.ensures.items_if_clones_equal (λ y e. e) in
    let inputs = ap length c.inputs.ensures ∙ ap (λ (m : Netlist). length m.inputs) c.netlist-netlist.ensures in
    let definitions = ap length c.definitions.ensures ∙ ap (λ (m : Netlist). length m.definitions) c.netlist-netlist.ensures in
    let all = signals_length c.args.core.now in
    subst (AreLeastKeys n c.args.chains.now 0) (sym made) (no_keys n c.args.chains.now _ (omega (arith, inputs, definitions, all)))

pub lower-requires : goal.lower-requires
lower-requires c =
    let sound : IsSound c.args.core.now = subst IsSound c.netlist-netlist.ensures c.sound.ensures in
    let low : c.loop-number.number < length c.args.points.now.seen.items = omega (arith, c.loop-number-test.true, c.len-number-end.ensures) in
    signal_inside c.args.core.now sound c.args.points.now.seen.items c.loop-number.number c.index.result.now c.index-in-loop-number.result c.requires.points.seen_is low c.index-in-loop-number.ensures
    c.index.ensures c.loop-number.keys.items c.loop-number.invariant.size

pub loop-number-preserved : goal.loop-number-preserved
loop-number-preserved c =
    let n = c.args.core.now in
    let chains = c.args.chains.now in
    let number = c.loop-number.number in
    let keys = c.loop-number.keys.items in
    let sound : IsSound c.args.core.now = subst IsSound c.netlist-netlist.ensures c.sound.ensures in
    let low : c.loop-number.number < length c.args.points.now.seen.items = omega (arith, c.loop-number-test.true, c.len-number-end.ensures) in
    let reads = read_signal n sound c.args.points.now.seen.items number c.index.result.now c.index-in-loop-number.result c.requires.points.seen_is low c.index-in-loop-number.ensures c.index.ensures in
    let inside = signal_inside n sound c.args.points.now.seen.items number c.index.result.now c.index-in-loop-number.result c.requires.points.seen_is low c.index-in-loop-number.ensures c.index.ensures keys
    c.loop-number.invariant.size in
    one_key n chains number keys c.loop-number.invariant c.key_of-key.result c.index-in-loop-number.result
    (subst (λ (m : Netlist). IsKeyOf m chains (point_of m number) c.key_of-key.result) c.netlist-netlist.ensures c.key_of-key.ensures) (sym reads) inside (number + 1) c.lower.new.keys.items refl
    c.lower.ensures

pub returns : goal.returns
returns c =
    let n = c.args.core.now in
    let sound : IsSound c.args.core.now = subst IsSound c.netlist-netlist.ensures c.sound.ensures in
    let size = ap length c.requires.points.seen_is ∙ watched_count c.args.core.now sound in
    subst (λ m. AreLeastKeys n c.args.chains.now m c.loop-number.keys.items)
    (let e : c.loop-number.number ≡ length (points c.args.core.now) = omega (arith, size, c.loop-number-test.false, c.len-number-end.ensures, c.loop-number.auto.number-end) in e) c.loop-number.invariant
