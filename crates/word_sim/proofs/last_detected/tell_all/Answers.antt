use Rattle.std.proofs.Common.{◌≡◌, ◌-◌, ◌+◌, ◌∙◌, None, refl, take, drop, get_or, arith}
use Rattle.std.proofs.lemmas.List.{get_or_default, length-set}
use Rattle.std.proofs.lemmas.Option.{slice_get-get_or}
use Rattle.word_sim.proofs.LastFrom.{none_up, one_up, all_up}
use Rattle.word_sim.proofs.Untold.{no_fault, at_place, past_place}
use Rattle.word_sim.proofs.last_detected.tell_all.Goals as goal

pub loop-k-init : goal.loop-k-init
loop-k-init c = (c.requires.size, λ n patterns end order are later. (none_up n patterns c.args.start end c.args.faults.now c.args.told.now.items later, are))

pub loop-k-preserved : goal.loop-k-preserved
loop-k-preserved c =
    let size = c.loop-k.invariant.0 in
    let l = c.loop-k-test.true in
    let known : c.index-known.result.now ≡ get_or c.loop-k.told.items c.loop-k.k None =
    c.index-known.ensures ∙ get_or_default c.loop-k.told.items c.loop-k.k c.index-known.result.now None (omega arith) in (
      length-set c.loop-k.told.items c.loop-k.k c.told_by-last.result.0 ∙ c.loop-k.invariant.0,
      λ n patterns end order are later.
          let before = c.loop-k.invariant.1 n patterns end order are later in
          let both = c.told_by-last.ensures n (take (end - c.args.start) (drop c.args.start patterns)) (get_or c.args.faults.now c.loop-k.k no_fault)
          (drop (c.loop-k.k + 1) c.args.faults.now) (drop (c.loop-k.k + 1) c.loop-k.told.items)
          (at_place n (take (end - c.args.start) (drop c.args.start patterns)) c.args.faults.now c.loop-k.told.items c.loop-k.k no_fault c.index-known.result.now
          (drop c.loop-k.next c.args.hits.now) c.loop-k-test.true c.loop-k.invariant.0 known before.1) in (
            one_up n patterns (take (end - c.args.start) (drop c.args.start patterns)) c.args.start end order refl c.args.faults.now
                c.loop-k.told.items c.loop-k.k (get_or c.args.faults.now c.loop-k.k no_fault) c.index-known.result.now c.told_by-last.result.0 before.0
                (slice_get-get_or c.args.faults.now c.loop-k.k no_fault c.loop-k-test.true) known both.0,
            past_place n (take (end - c.args.start) (drop c.args.start patterns)) c.args.faults.now c.loop-k.told.items c.loop-k.k c.told_by-last.result.0
                (drop c.told_by-last.result.1 c.args.hits.now) both.1,
          ),
    )

pub returns : goal.returns
returns c = λ n patterns end order are later.
    all_up n patterns c.args.start end c.args.faults.now c.loop-k.told.items c.loop-k.k c.loop-k-test.false (c.loop-k.invariant.1 n patterns end order are later).0
