use Rattle.std.proofs.Common.{◌-◌, ◌<◌, ◌∙◌, ap, sym, length, set, refl, arith}
use Rattle.netlist.proofs.Lists.{read_at}
use Rattle.netlist.proofs.Counting.{counts_placed, counts_down, counts_last}
use Rattle.netlist.proofs.order.Placing.count_down.Goals as goal

pub returns-then-index-ne0 : goal.returns-then-index-ne0
returns-then-index-ne0 c k =
    let p = c.args.self.now in
    let z = c.args.gate in
    let rank = read_at p.ranks.items c.index-place.result z c.index.result.now c.index-place.ensures c.requires.within c.index.ensures in
    counts_placed p z k c.requires.room (let differs = c.if-index-ne0.true in omega arith)

pub returns-then-index-gt1 : goal.returns-then-index-gt1
returns-then-index-gt1 c k =
    let p = c.args.self.now in
    let z = c.args.gate in
    let size = c.requires.room.counts in
    let within : z < length p.counts.items = let l = c.requires.within in omega arith in
    let rank = read_at p.ranks.items c.index-place.result z c.index.result.now c.index-place.ensures c.requires.within c.index.ensures in
    let count = read_at p.counts.items c.index-place.result z c.index-2.result.now c.index-place.ensures within c.index-2.ensures in
    let again = read_at p.counts.items c.index-place.result z c.index_mut.result.now c.index-place.ensures within c.index_mut.ensures.value in
    counts_down p _ z k c.requires.room c.requires.within (rank ∙ c.if-index-ne0.false) (let many = c.if-index-gt1.true in omega arith) refl refl
    (ap (λ i. set p.counts.items i (c.index_mut.result.now - 1)) c.index-place.ensures ∙ ap (λ m. set p.counts.items z (m - 1)) (sym again))

pub place-requires-clause-unplaced : goal.place-requires-clause-unplaced
place-requires-clause-unplaced c =
    let p = c.args.self.now in
    let z = c.args.gate in
    read_at p.ranks.items c.index-place.result z c.index.result.now c.index-place.ensures c.requires.within c.index.ensures ∙ c.if-index-ne0.false

pub returns : goal.returns
returns c k =
    let p = c.args.self.now in
    let z = c.args.gate in
    let size = c.requires.room.counts in
    let within : z < length p.counts.items = let l = c.requires.within in omega arith in
    let rank = read_at p.ranks.items c.index-place.result z c.index.result.now c.index-place.ensures c.requires.within c.index.ensures in
    let count = read_at p.counts.items c.index-place.result z c.index-2.result.now c.index-place.ensures within c.index-2.ensures in
    counts_last p _ z k c.requires.room c.requires.within (rank ∙ c.if-index-ne0.false) (let few = c.if-index-gt1.false in omega arith) c.in_ok-place.ensures
