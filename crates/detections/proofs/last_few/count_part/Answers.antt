use Rattle.std.proofs.Common.{◌≡◌, ◌+◌, ◌-◌, ◌<◌, ◌∙◌, Some, length, take, drop, get_or, ap, sym, subst, arith}
use Rattle.std.specs.List.{slice_get}
use Rattle.std.proofs.lemmas.List.{get_or_default, length-drop, length-take}
use Rattle.std.proofs.lemmas.Option.{slice_get-get_or}
use Rattle.detections.specs.inner.Counting.{CountsOn}
use Rattle.detections.proofs.Parts.{all_up, none_up, one_up}
use Rattle.detections.proofs.Rooms.{ready_again}
use Rattle.detections.proofs.last_few.count_part.Goals as goal

pub loop-k-init : goal.loop-k-init
loop-k-init c = (
  none_up c.args.core.now c.args.patterns.now c.args.most c.args.faults.now c.args.start c.args.end c.args.found.now.times.items c.args.found.now.needed.items c.requires.later,
  c.in_ok-begin.ensures,
)

pub loop-k-preserved : goal.loop-k-preserved
loop-k-preserved c =
    let t = length-take (c.args.end - c.args.start) (drop c.args.start c.args.patterns.now) in
    let d = length-drop c.args.start c.args.patterns.now in
    let size = c.loop-k.invariant.0.times_size in
    let l = c.loop-k-test.true in
    let many : c.args.end - c.args.start ≡ length (take (c.args.end - c.args.start) (drop c.args.start c.args.patterns.now)) = omega arith in
    let end_is : c.args.start + length (take (c.args.end - c.args.start) (drop c.args.start c.args.patterns.now)) ≡ c.args.end = omega arith in
    let low : c.loop-k.k < length c.loop-k.found.times.items = omega arith in
    let default = get_or_default c.loop-k.found.times.items c.loop-k.k c.index-times.result.now 0 low in
    let known : c.index-times.result.now ≡ get_or c.loop-k.found.times.items c.loop-k.k 0 = cc in
    let at : slice_get c.args.faults.now c.loop-k.k ≡ Some c.index-faults-k.result =
    slice_get-get_or c.args.faults.now c.loop-k.k c.index-faults-k.result c.loop-k-test.true ∙ ap Some (sym c.index-faults-k.is) in (
      one_up c.args.core.now c.args.patterns.now c.args.most c.args.faults.now c.args.start c.args.end c.loop-k.found.times.items c.loop-k.found.needed.items c.count_fault.new.needed.items c.loop-k.k
          c.count_fault.result c.index-faults-k.result c.loop-k.invariant.0 at
          (subst (λ i. CountsOn c.args.core.now c.args.patterns.now c.args.most c.args.start i c.index-faults-k.result (get_or c.loop-k.found.times.items c.loop-k.k 0)
          c.count_fault.result c.loop-k.found.needed.items c.count_fault.new.needed.items) end_is
          (subst (λ u. CountsOn c.args.core.now c.args.patterns.now c.args.most c.args.start (c.args.start + length (take (c.args.end - c.args.start) (drop c.args.start c.args.patterns.now)))
          c.index-faults-k.result u c.count_fault.result c.loop-k.found.needed.items c.count_fault.new.needed.items) known
          (c.count_fault.ensures.counted c.args.patterns.now (ap (λ m. take m (drop c.args.start c.args.patterns.now)) many)))),
      c.count_fault.ensures.can,
    )

pub returns-clause-counted : goal.returns-clause-counted
returns-clause-counted c =
    all_up c.args.core.now c.args.patterns.now c.args.most c.args.faults.now c.args.start c.args.end c.loop-k.found.times.items c.loop-k.found.needed.items c.loop-k.k c.loop-k-test.false c.loop-k.invariant.0

pub returns-clause-ready : goal.returns-clause-ready
returns-clause-ready c = ready_again c.args.core.now (take (c.args.end - c.args.start) (drop c.args.start c.args.patterns.now)) c.loop-k.teller c.loop-k.invariant.1
