use Rattle.std.proofs.Common.{◌++◌, ◌∷◌, [], ap, ◌∙◌}
use Rattle.stil_write.proofs.ItemLemmas.{pushed_items}
use Rattle.stil_write.proofs.items.Items.push.Goals as goal

pub invariant_of-self-2 : goal.invariant_of-self-2
invariant_of-self-2 c =
    (pushed_items c.self.inside.kinds.items c.push-2.new.self.items c.self.inside.words c.append.new.self c.self.inside.ends.items c.push.new.self.items c.args.self.now c.args.kind c.args.words.now c.len.result
    c.self.invariant c.self.view_is c.in-Ok.ensures (c.in_ok-push.ensures.items ∙ ap (λ xs. xs ++ c.len.result ∷ []) c.in_ok-reserve-2.ensures.items)
    (c.in_ok-push-2.ensures.items ∙ ap (λ xs. xs ++ c.args.kind ∷ []) c.in_ok-reserve.ensures.items) c.len.ensures).0

pub returns : goal.returns
returns c =
    (pushed_items c.self.inside.kinds.items c.push-2.new.self.items c.self.inside.words c.append.new.self c.self.inside.ends.items c.push.new.self.items c.args.self.now c.args.kind c.args.words.now c.len.result
    c.self.invariant c.self.view_is c.in-Ok.ensures (c.in_ok-push.ensures.items ∙ ap (λ xs. xs ++ c.len.result ∷ []) c.in_ok-reserve-2.ensures.items)
    (c.in_ok-push-2.ensures.items ∙ ap (λ xs. xs ++ c.args.kind ∷ []) c.in_ok-reserve.ensures.items) c.len.ensures).1
