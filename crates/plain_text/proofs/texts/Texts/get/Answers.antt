use Rattle.std.proofs.Common.{◌<◌, length, sym, ap, ◌∙◌, subst}
use Rattle.plain_text.proofs.Buffers.{rows_count}
use Rattle.plain_text.proofs.texts.Texts.get.Goals as goal

pub row-requires-clause-within : goal.row-requires-clause-within
row-requires-clause-within c =
    subst (λ n. c.args.place < n)
    (sym (ap length c.self.view_is) ∙ (rows_count 0 c.self.inside.bytes.items c.self.inside.ends.items ∙ sym (ap length c.deref-2.ensures.value)))
    c.requires
