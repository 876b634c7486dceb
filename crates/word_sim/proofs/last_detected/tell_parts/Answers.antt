use Rattle.std.proofs.Common.{length, refl, subst, sym, arith}
use Rattle.word_sim.specs.inner.Found.{AreFrom}
use Rattle.word_sim.proofs.LastFrom.{all_told, none_from}
use Rattle.word_sim.proofs.last_detected.tell_parts.Goals as goal

pub loop-end-init : goal.loop-end-init
loop-end-init c = (
  omega arith,
  subst (AreFrom c.args.simulator.now c.args.patterns.now (length c.args.patterns.now) c.args.faults.now) (sym c.requires.nothing)
      (none_from c.args.simulator.now c.args.patterns.now c.args.faults.now (length c.args.patterns.now) refl),
  refl,
)

pub returns : goal.returns
returns c =
    let last = c.loop-end-test.false in
    all_told c.args.simulator.now c.args.patterns.now c.args.faults.now c.loop-end.told.items c.loop-end.end (omega arith) c.loop-end.invariant.1
