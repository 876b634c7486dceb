use Rattle.std.proofs.Common.{◌+◌, ◌/◌, ◌%◌, min, sym, ◌∙◌, ap, arith}
use Rattle.statement.specs.Tests.{longest_of}
use Rattle.scan_insert.proofs.Dealing.{longest_of-chains}
use Rattle.scan_insert.proofs.chains.Chains.longest.Goals as goal

pub returns : goal.returns
returns c =
    let v = c.self.inside.cells in
    let count = c.self.inside.count in
    let most = longest_of-chains v.items count c.self.invariant.enough (omega arith) in
    c.div_ceil.ensures ∙ (ap (λ n. n / count + min 1 (n % count)) (c.len.ensures ∙ v.ok.0) ∙ (sym most ∙ ap longest_of c.self.view_is))
