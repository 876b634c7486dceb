use Rattle.std.proofs.Common.{length, subst, ◌∙◌}
use Rattle.std.proofs.lemmas.List.{take_all}
use Rattle.std.specs.List.{All}
use Rattle.refutation.specs.Refutations.{IsKept}
use Rattle.refutation_check.proofs.LookLemmas.{narrows_then}
use Rattle.refutation_check.proofs.Looks.{pins_more}
use Rattle.refutation_check.proofs.LookSteps.{pin_beside, pin_low}
use Rattle.refutation_check.proofs.TrailLemmas.{grows_then}
use Rattle.refutation_check.proofs.sweeps.look_at_pins.Goals as goal

pub look_at-requires-clause-within : goal.look_at-requires-clause-within
look_at-requires-clause-within c =
    pin_low c.args.netlist.now c.args.fault.now c.args.gate c.args.pins.now c.requires.pins c.loop-k.k c.index-pins-k.result c.loop-k-test.true c.index-pins-k.is c.requires.sound
    (length c.loop-k.sets.told) (c.loop-k.invariant.grows.size ∙ c.requires.size)

pub look_at-requires-clause-gate : goal.look_at-requires-clause-gate
look_at-requires-clause-gate c = let p = c.requires.pins in (p.0, p.1, p.2)

pub look_at-requires-clause-beside : goal.look_at-requires-clause-beside
look_at-requires-clause-beside c =
    pin_beside c.args.netlist.now c.args.fault.now c.args.gate c.args.pins.now c.requires.pins c.loop-k.k c.index-pins-k.result c.loop-k-test.true c.index-pins-k.is

pub returns-in_err-look_at-clause-grows : goal.returns-in_err-look_at-clause-grows
returns-in_err-look_at-clause-grows c = grows_then c.args.sets.now c.loop-k.sets c.look_at.new.sets c.loop-k.invariant.grows c.in_err-look_at.ensures.grows

pub loop-k-preserved : goal.loop-k-preserved
loop-k-preserved c =
    let n = c.args.netlist.now in
    let f = c.args.fault.now in
    let pins = c.args.pins.now in
    let old = c.args.sets.now in
    let now = c.loop-k.sets in
    let new = c.look_at.new.sets in
    let look = c.in_ok-look_at.ensures.so in
    let v = c.loop-k.invariant in
    record {
      grows = grows_then old now new v.grows c.in_ok-look_at.ensures.grows;
      narrows = narrows_then n f old now new v.narrows look.narrows;
      quiet = pins_more n f old now new c.args.gate pins c.loop-k.k c.index-pins-k.result c.loop-k-test.true c.index-pins-k.is
          (pin_beside n f c.args.gate pins c.requires.pins c.loop-k.k c.index-pins-k.result c.loop-k-test.true c.index-pins-k.is) v.grows c.in_ok-look_at.ensures.grows v.narrows v.quiet look;
    }

pub returns-clause-so : goal.returns-clause-so
returns-clause-so c = record {
  narrows = c.loop-k.invariant.narrows;
  quiet = λ none.
      let q = c.loop-k.invariant.quiet none in
      (q.0, subst (All (IsKept c.args.netlist.now c.args.fault.now c.args.sets.now.told c.args.gate)) (take_all c.loop-k.k c.args.pins.now c.loop-k-test.false) q.1);
}
