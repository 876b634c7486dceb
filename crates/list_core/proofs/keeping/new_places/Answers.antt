use Rattle.std.proofs.Common.{◌≡◌, ℕ, ◌+◌, Bool, false, cond, get_or, ap, sym, ◌∙◌, length, arith}
use Rattle.list_core.specs.Kept.{new_place}
use Rattle.list_core.proofs.KeepLemmas.{next_marked, one_small, each_more}
use Rattle.list_core.proofs.keeping.new_places.Goals as goal

pub loop-mark-preserved : goal.loop-mark-preserved
loop-mark-preserved c =
    let i = c.loop-mark.invariant in
    let k = c.loop-mark.mark-index in
    let marked : ℕ → Bool = λ j. get_or c.args.marks.now j false in
    let next = next_marked marked k in
    let size : length c.loop-mark.places.items ≡ k = omega (arith, i.size) in
    record {
      size = omega (arith, c.in_ok-push.ensures.len, i.size);
      small = omega (arith, one_small (marked k), i.small, c.count_on-next.ensures);
      next = c.count_on-next.ensures ∙ (ap (λ n. n + cond (marked k) 1 0) i.next ∙ sym next);
      each = each_more (new_place marked) c.loop-mark.places.items c.push.new.self.items k c.loop-mark.next size c.in_ok-push.ensures.items i.next i.each;
    }
