use Rattle.std.proofs.Common.{ℕ, Bool, false, get_or, arith, length-append}
use Rattle.list_core.proofs.KeepLemmas.{item_more}
use Rattle.list_core.proofs.keeping.kept.Goals as goal

pub loop-item-preserved : goal.loop-item-preserved
loop-item-preserved g c =
    let i = c.loop-item.invariant in
    let marked : ℕ → Bool = λ j. get_or c.args.marks.now j false in
    record {
      count = simp length-append (omega (arith, i.count));
      items = item_more marked c.loop-item.yielded c.loop-item.left.items c.push_marked.new.left.items c.in-Some.item c.loop-item.place c.is_marked.result
          i.count i.items c.is_marked.ensures c.in_ok-push_marked.ensures;
    }
