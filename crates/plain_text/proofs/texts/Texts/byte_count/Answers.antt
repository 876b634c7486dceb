use Rattle.std.proofs.Common.{length, ap, ◌∙◌}
use Rattle.std.specs.List.{sum_by}
use Rattle.plain_text.proofs.Buffers.{elements_in_all}
use Rattle.plain_text.proofs.texts.Texts.byte_count.Goals as goal

pub returns : goal.returns
returns c =
    c.len.ensures ∙ (c.self.inside.bytes.ok.0
    ∙ (elements_in_all c.self.inside.bytes.items c.self.inside.ends.items c.self.invariant ∙ ap (λ ts. sum_by length ts) c.self.view_is))
