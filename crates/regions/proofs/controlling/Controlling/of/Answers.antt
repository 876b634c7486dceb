use Rattle.std.proofs.Common.{◌-◌, drop, get_or, sym, ◌∙◌, ap, subst, arith, bit_or, bit_xor}
use Rattle.events.specs.Words.{bit_of, ones}
use Rattle.regions.specs.Sensitized.{is_noncontrolling}
use Rattle.regions.specs.inner.Controlled.{AreControlled}
use Rattle.regions.proofs.ControlWords.{pin_more}
use Rattle.regions.proofs.controlling.Controlling.of.Goals as goal

pub loop-k-preserved : goal.loop-k-preserved
loop-k-preserved c =
    let some = c.loop-k-test.true in
    let most = c.loop-k.auto.k in
    let rest = drop (c.loop-k.k - 1) c.args.pins.now in
    let controls = bit_xor c.noncontrolling-side.result ones in
    subst (λ w. AreControlled c.args.kind rest c.args.values.now w c.with-controlling.result.two) (sym c.with-controlling.ensures.one)
    (subst (λ w. AreControlled c.args.kind rest c.args.values.now (bit_or controls c.loop-k.controlling.one) w) (sym c.with-controlling.ensures.two)
    (pin_more c.args.kind c.args.pins.now c.args.values.now c.loop-k.k c.loop-k.controlling.one c.loop-k.controlling.two c.noncontrolling-side.result c.index-pins-k.result
    (omega arith) (omega arith) c.index-pins-k.is
    (λ j low. c.noncontrolling-side.ensures j low ∙ ap (λ i. is_noncontrolling c.args.kind (bit_of j (get_or c.args.values.now i 0))) c.index.ensures) c.loop-k.invariant))
