use Rattle.std.proofs.Common.{◌∙◌}
use Rattle.stil_write.proofs.ItemLemmas.{count_in}
use Rattle.stil_write.proofs.items.Items.len.Goals as goal

pub returns : goal.returns
returns c =
    c.len.ensures ∙ (c.self.inside.ends.ok.0
    ∙ count_in c.self.inside.kinds.items c.self.inside.words c.self.inside.ends.items c.args.self.now c.self.invariant c.self.view_is)
