use Rattle.std.proofs.Common.{length, sym, ap, ◌∙◌}
use Rattle.plain_text.proofs.Buffers.{rows_count}
use Rattle.plain_text.proofs.texts.Texts.len.Goals as goal

pub returns : goal.returns
returns c =
    c.len.ensures ∙ (c.self.inside.ends.ok.0
    ∙ (sym (rows_count 0 c.self.inside.bytes.items c.self.inside.ends.items) ∙ ap length c.self.view_is))
