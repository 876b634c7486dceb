use Rattle.std.proofs.Common.{◌<◌, ◌+◌, ℕ, List, ap, ◌∙◌, length, get_or, arith}
use Rattle.std.proofs.lemmas.List.{get_or_read}
use Rattle.std.proofs.lemmas.Grind.{common_steps}
use Rattle.statement.specs.Netlists.{Definition}
use Rattle.netlist.proofs.Placed.{signals_length}
use Rattle.netlist.proofs.Orders.{gates_few, gate_below, place_more, all_placed}
use Rattle.netlist.proofs.schedules.places_of.Goals as goal

pub overflow_cast-order : goal.overflow_cast-order
overflow_cast-order c =
    let few = gates_few c.args.netlist.now c.sound.ensures.formed.numbered c.args.order.now c.requires in
    let small = c.sound.ensures.sized.small in
    omega arith

pub overflow_cast-k : goal.overflow_cast-k
overflow_cast-k c =
    let few = gates_few c.args.netlist.now c.sound.ensures.formed.numbered c.args.order.now c.requires in
    let small = c.sound.ensures.sized.small in
    let l = c.loop-k-test.true in
    omega arith

pub index_mut-requires : goal.index_mut-requires
index_mut-requires c =
    let n = c.args.netlist.now in
    let l : c.loop-k.k < length c.args.order.now = c.loop-k-test.true in
    let is = get_or_read c.args.order.now c.loop-k.k c.index-order-k.result l c.index-order-k.is 0 in
    let low = gate_below n c.sound.ensures.formed.numbered (get_or c.args.order.now c.loop-k.k 0) (c.requires.members c.loop-k.k 0 l) in
    let i = c.index.ensures in
    let size = c.loop-k.invariant.size in
    let s = signals_length n in
    let a = ap (λ (xs : List ℕ). length xs) c.inputs.ensures in
    let b = ap (λ (xs : List Definition). length xs) c.definitions.ensures in
    let v = c.loop-k.places.ok.0 in
    omega arith

pub loop-k-init : goal.loop-k-init
loop-k-init c = grind (arith, common_steps)

pub loop-k-preserved : goal.loop-k-preserved
loop-k-preserved c =
    let n = c.args.netlist.now in
    let numbered = c.sound.ensures.formed.numbered in
    let l : c.loop-k.k < length c.args.order.now = c.loop-k-test.true in
    let is = get_or_read c.args.order.now c.loop-k.k c.index-order-k.result l c.index-order-k.is 0 in
    let low = gate_below n numbered (get_or c.args.order.now c.loop-k.k 0) (c.requires.members c.loop-k.k 0 l) in
    let i = c.index.ensures in
    let s = signals_length n in
    let a = ap (λ (xs : List ℕ). length xs) c.inputs.ensures in
    let b = ap (λ (xs : List Definition). length xs) c.definitions.ensures in
    place_more n numbered c.args.order.now c.requires c.loop-k.places.items (length c.inputs.result.now + length c.definitions.result.now) c.loop-k.k c.index.result
    c.loop-k.invariant l (i ∙ is) (omega arith)

pub returns : goal.returns
returns c =
    let n = c.args.netlist.now in
    let s = signals_length n in
    let a = ap (λ (xs : List ℕ). length xs) c.inputs.ensures in
    let b = ap (λ (xs : List Definition). length xs) c.definitions.ensures in
    let stop = c.loop-k-test.false in
    let end = c.loop-k.auto.k-end in
    all_placed n c.sound.ensures.formed.numbered c.args.order.now c.requires c.loop-k.places.items (length c.inputs.result.now + length c.definitions.result.now) c.loop-k.k
    (omega arith) (omega arith) c.loop-k.invariant
