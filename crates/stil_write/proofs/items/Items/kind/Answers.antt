use Rattle.std.proofs.Common.{arith, ◌∙◌, ◌<◌, length}
use Rattle.stil_write.proofs.ItemLemmas.{count_in, kind_in}
use Rattle.stil_write.proofs.items.Items.kind.Goals as goal

pub index-requires : goal.index-requires
index-requires c =
    let n = count_in c.self.inside.kinds.items c.self.inside.words c.self.inside.ends.items c.args.self.now c.self.invariant c.self.view_is in
    let k = c.self.invariant.counts in
    let l = c.self.inside.kinds.ok.0 in
    omega (arith, n, k, l)

pub returns : goal.returns
returns c =
    let n = count_in c.self.inside.kinds.items c.self.inside.words c.self.inside.ends.items c.args.self.now c.self.invariant c.self.view_is in
    let within : c.args.place < length c.self.inside.ends.items = omega (arith, n) in
    c.index.ensures
    ∙ kind_in c.self.inside.kinds.items c.self.inside.words c.self.inside.ends.items c.args.self.now c.args.place c.index.result.now c.self.invariant c.self.view_is within
