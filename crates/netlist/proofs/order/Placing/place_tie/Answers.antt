use Rattle.std.proofs.Common.{◌≡◌, ◌<◌, ◌∙◌, length, get_or, arith}
use Rattle.std.proofs.lemmas.Grind.{common_steps}
use Rattle.netlist.proofs.Lists.{read_at}
use Rattle.netlist.proofs.Ties.{tie_placed}
use Rattle.netlist.proofs.order.Placing.place_tie.Goals as goal

pub returns-in_ok-place : goal.returns-in_ok-place
returns-in_ok-place c =
    let p = c.args.self.now in
    let z = c.args.signal in
    let size = c.requires.room.counts in
    let within : z < length p.counts.items = let l = c.requires.within in omega arith in
    let rank : get_or p.ranks.items z 0 ≡ 0 =
    read_at p.ranks.items c.index.result z c.index-2.result.now c.index.ensures c.requires.within c.index-2.ensures ∙ c.if-index-eq0.true in
    let count : get_or p.counts.items z 0 ≡ 0 =
    read_at p.counts.items c.index-then-index-eq0.result z c.index-then-index-eq0-2.result.now c.index-then-index-eq0.ensures within c.index-then-index-eq0-2.ensures ∙ c.if-index-eq0-2.true in
    tie_placed p c.place.new.self z c.requires.room c.requires.within rank count c.in_ok-place.ensures

pub returns-else-index-eq0 : goal.returns-else-index-eq0
returns-else-index-eq0 c = grind (arith, common_steps)
