use Rattle.std.proofs.Common.{◌≡◌, ◌-◌, ◌<◌, ◌≤◌, map, length, ap, sym, ◌∙◌, arith}
use Rattle.std.proofs.lemmas.List.{length-map}
use Rattle.refutation.specs.Refutations.{told_of}
use Rattle.refutation_check.proofs.ImageLemmas.{made_more, made_all, made_none, told_pin}
use Rattle.refutation_check.proofs.images.made.Goals as goal

pub loop-k-init : goal.loop-k-init
loop-k-init c =
    let gate = c.args.gate.now in
    let sets = map (told_of c.args.told.now) gate.pins in
    made_none c.args.fault.now gate sets (length c.pins-pins.result.now) c.kind-kind.result c.begun-pairs.result c.kind-kind.ensures
    (ap length c.pins-pins.ensures ∙ sym (length-map gate.pins (told_of c.args.told.now))) c.begun-pairs.ensures

pub loop-k-preserved : goal.loop-k-preserved
loop-k-preserved c =
    let gate = c.args.gate.now in
    let told = c.args.told.now in
    let sets = map (told_of told) gate.pins in
    let some = c.loop-k-test.true in
    let last = c.loop-k.auto.k in
    let low : c.loop-k.k - 1 < length c.pins-pins.result.now = omega arith in
    let size : length sets ≡ length c.pins-pins.result.now = length-map gate.pins (told_of told) ∙ sym (ap length c.pins-pins.ensures) in
    made_more c.args.fault.now gate sets c.loop-k.k (c.loop-k.k - 1) c.kind-kind.result c.id-id.result c.told_at-set.result c.on_line-pin.result c.loop-k.pairs c.joined-pairs.result
    c.kind-kind.ensures c.id-id.ensures (omega arith) (omega arith)
    (c.told_at-set.ensures ∙ told_pin told gate.pins c.pins-pins.result.now (c.loop-k.k - 1) c.index-pins-k.result c.pins-pins.ensures low c.index-pins-k.is)
    c.on_line-pin.ensures c.loop-k.invariant c.joined-pairs.ensures

pub returns : goal.returns
returns c =
    let gate = c.args.gate.now in
    let end : c.loop-k.k ≤ 0 = c.loop-k-test.false in
    made_all c.args.fault.now gate (map (told_of c.args.told.now) gate.pins) c.loop-k.k c.kind-kind.result c.id-id.result c.loop-k.pairs c.ended.result c.on_line.result
    c.kind-kind.ensures c.id-id.ensures (omega arith) c.loop-k.invariant c.ended.ensures c.on_line.ensures
