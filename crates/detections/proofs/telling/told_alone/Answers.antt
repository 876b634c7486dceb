use Rattle.std.proofs.Common.{◌≡◌, ◌<◌, ◌∙◌, true, ℕ, length, refl, sym, subst, arith}
use Rattle.std.specs.Prelude.{◌↔◌}
use Rattle.netlist.specs.Lines.{IsLineOf}
use Rattle.events.specs.Standing.{Standing}
use Rattle.observed_points.specs.Points.{ArePoints}
use Rattle.word_sim.specs.inner.Packed.{AreGoodFor}
use Rattle.detections.specs.Times.{IsDetectedBy}
use Rattle.detections.proofs.Alone.{first_all, first_more, first_none}
use Rattle.detections.proofs.telling.told_alone.Goals as goal

pub is_told-bit-requires-clause-points : goal.is_told-bit-requires-clause-points
is_told-bit-requires-clause-points c =
    subst (λ (s : Standing ℕ). ArePoints s.netlist c.args.points.now.seen.items c.args.points.now.first.items c.args.points.now.numbers.items) (sym c.loop-j.invariant.1) c.requires.points

pub is_told-bit-requires-clause-line : goal.is_told-bit-requires-clause-line
is_told-bit-requires-clause-line c = subst (λ (s : Standing ℕ). IsLineOf s.netlist c.args.fault.now.line) (sym c.loop-j.invariant.1) c.requires.line

pub is_told-bit-requires-clause-low : goal.is_told-bit-requires-clause-low
is_told-bit-requires-clause-low c = let few = c.requires.good.few in let l = c.loop-j-test.true in omega arith

pub loop-j-init : goal.loop-j-init
loop-j-init c = (first_none c.args.events.now.netlist c.args.patterns.now c.args.fault.now, refl)

pub loop-j-preserved : goal.loop-j-preserved
loop-j-preserved c =
    let l : c.loop-j.j < length c.args.patterns.now = c.loop-j-test.true in
    let few = c.requires.good.few in
    let told : (c.is_told-bit.result ≡ true) ↔ IsDetectedBy c.args.events.now.netlist c.args.patterns.now c.args.fault.now c.loop-j.j =
    subst (λ (s : Standing ℕ). AreGoodFor s.netlist c.args.patterns.now s.values → (c.is_told-bit.result ≡ true) ↔ IsDetectedBy s.netlist c.args.patterns.now c.args.fault.now c.loop-j.j) c.loop-j.invariant.1
    (λ good. c.is_told-bit.ensures.told c.args.patterns.now good l) c.requires.good in (
      first_more c.args.events.now.netlist c.args.patterns.now c.args.fault.now c.loop-j.j c.loop-j.word c.with_bit-word.result c.is_told-bit.result c.loop-j.invariant.0 (omega arith) told
          c.with_bit-word.ensures.same c.with_bit-word.ensures.others,
      c.is_told-bit.ensures.same ∙ c.loop-j.invariant.1,
    )

pub returns-clause-told : goal.returns-clause-told
returns-clause-told c = first_all c.args.events.now.netlist c.args.patterns.now c.args.fault.now c.loop-j.j c.loop-j.word c.loop-j-test.false c.loop-j.invariant.0
