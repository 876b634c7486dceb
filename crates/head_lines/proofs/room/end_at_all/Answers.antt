use Rattle.std.proofs.Common.{◌≡◌, ◌+◌, ◌++◌, ℕ, List, [], ◌∷◌, take, sym, ◌∙◌, ap, subst}
use Rattle.std.proofs.lemmas.Grind.{take_at_read}
use Rattle.head_lines.specs.inner.Binding.{AreHeads}
use Rattle.head_lines.proofs.Chains.{heads_more}
use Rattle.head_lines.proofs.room.end_at_all.Goals as goal

pub loop-id-preserved : goal.loop-id-preserved
loop-id-preserved c =
    let ids : List ℕ = c.args.ids.now in
    let x : ℕ = c.id-item.result in
    let k : ℕ = c.loop-id.id-index in
    let more : take (k + 1) ids ≡ take k ids ++ x ∷ [] = (take_at_read ids k x c.loop-id-test.true).1 ∙ ap (λ y. take k ids ++ y ∷ []) (sym c.id-item.is) in (
      subst (AreHeads c.args.roles.now.items c.end_at.new.roles.items) (sym more)
          (heads_more c.args.roles.now.items c.loop-id.roles.items c.end_at.new.roles.items (take k ids) x c.loop-id.invariant.0 c.in_ok-end_at.ensures.heads),
      λ base h. c.in_ok-end_at.ensures.beside base (c.loop-id.invariant.1 base h),
    )
