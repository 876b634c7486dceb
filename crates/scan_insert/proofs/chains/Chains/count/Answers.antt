use Rattle.std.proofs.Common.{sym, ◌∙◌, ap, length}
use Rattle.scan_insert.proofs.Dealing.{length-chains}
use Rattle.scan_insert.proofs.chains.Chains.count.Goals as goal

pub returns : goal.returns
returns c =
    let dealt = c.self.invariant in
    sym (length-chains c.self.inside.cells.items c.self.inside.count dealt.enough dealt.some) ∙ ap length c.self.view_is
