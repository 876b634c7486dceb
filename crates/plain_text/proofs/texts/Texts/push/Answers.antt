use Rattle.std.proofs.Common.{◌++◌, ◌∷◌, [], ap, ◌∙◌}
use Rattle.plain_text.proofs.Buffers.{pushed_rows, pushed_ends}
use Rattle.plain_text.proofs.texts.Texts.push.Goals as goal

pub invariant_of-self-2 : goal.invariant_of-self-2
invariant_of-self-2 c =
    pushed_ends c.self.inside.bytes.items c.self.inside.ends.items c.args.text.now c.extend_from_slice.new.self.items c.push.new.self.items c.len.result
    c.self.invariant c.in_ok-extend_from_slice.ensures.items (c.in_ok-push.ensures.items ∙ ap (λ xs. xs ++ c.len.result ∷ []) c.reserve.ensures.items)
    (c.len.ensures ∙ c.extend_from_slice.new.self.ok.0)

pub returns-clause-ok : goal.returns-clause-ok
returns-clause-ok c =
    pushed_rows c.self.inside.bytes.items c.self.inside.ends.items c.args.text.now c.extend_from_slice.new.self.items c.push.new.self.items c.len.result
    c.self.invariant c.in_ok-extend_from_slice.ensures.items (c.in_ok-push.ensures.items ∙ ap (λ xs. xs ++ c.len.result ∷ []) c.reserve.ensures.items)
    (c.len.ensures ∙ c.extend_from_slice.new.self.ok.0)
    ∙ ap (λ texts. texts ++ c.args.text.now ∷ []) c.self.view_is
