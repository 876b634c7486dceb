use Rattle.std.proofs.Common.{◌≡◌, ℕ, length, subst, sym, refl, arith}
use Rattle.transition_sim.specs.inner.Launches.{AreFramesFrom}
use Rattle.transition_sim.proofs.LastTold.{none_from}
use Rattle.transition_sim.proofs.telling.tell.Goals as goal

pub loop-end-init : goal.loop-end-init
loop-end-init c =
    let n = c.args.task.now.core.now in
    let patterns = c.args.task.now.patterns.now in
    let faults = c.args.task.now.faults.now in
    record {
      within = omega arith;
      first = c.requires.first;
      second = c.requires.second;
      told = subst (AreFramesFrom n patterns (length patterns) faults) (sym c.requires.none) (none_from n patterns faults (length patterns) refl);
    }

pub returns : goal.returns
returns c =
    let task = c.args.task.now in
    let past = c.loop-end-test.false in
    let none : c.loop-end.end ≡ 0 = omega arith in
    subst (λ (m : ℕ). AreFramesFrom task.core.now task.patterns.now m task.faults.now c.loop-end.told.items) none c.loop-end.invariant.told
