use Rattle.std.proofs.Common.{◌==◌, ap, ◌∙◌}
use Rattle.stil_write.proofs.ItemLemmas.{count_in}
use Rattle.stil_write.proofs.items.Items.is_empty.Goals as goal

pub returns : goal.returns
returns c =
    c.is_empty.ensures ∙ ap (λ n. n == 0) (c.self.inside.ends.ok.0
    ∙ count_in c.self.inside.kinds.items c.self.inside.words c.self.inside.ends.items c.args.self.now c.self.invariant c.self.view_is)
