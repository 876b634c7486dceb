use Rattle.std.proofs.Common.{Bool, List, ℕ, length, replicate, refl, subst, sym, arith}
use Rattle.detections.specs.inner.Counting.{AreCounted}
use Rattle.detections.proofs.Parts.{all_marks, all_times, none_yet}
use Rattle.detections.proofs.last_few.find_few.Goals as goal

pub loop-end-init : goal.loop-end-init
loop-end-init c = (
  omega arith,
  subst (λ (ts : List ℕ). AreCounted c.args.core.now c.args.patterns.now c.args.most (length c.args.patterns.now) c.args.faults.now ts c.in_ok-none_needed.field-0.items) (sym c.in_ok-none_counted.ensures)
      (subst (λ (ms : List Bool). AreCounted c.args.core.now c.args.patterns.now c.args.most (length c.args.patterns.now) c.args.faults.now (replicate (length c.args.faults.now) 0) ms) (sym c.in_ok-none_needed.ensures)
      (none_yet c.args.core.now c.args.patterns.now c.args.most c.args.faults.now (length c.args.patterns.now) refl)),
  c.in_ok-teller.ensures,
)

pub returns-clause-times : goal.returns-clause-times
returns-clause-times c =
    let last = c.loop-end-test.false in
    all_times c.args.core.now c.args.patterns.now c.args.most c.args.faults.now c.loop-end.end c.loop-end.found.times.items c.loop-end.found.needed.items (omega arith) c.loop-end.invariant.1

pub returns-clause-needed : goal.returns-clause-needed
returns-clause-needed c =
    let last = c.loop-end-test.false in
    all_marks c.args.core.now c.args.patterns.now c.args.most c.args.faults.now c.loop-end.end c.loop-end.found.times.items c.loop-end.found.needed.items (omega arith) c.loop-end.invariant.1
