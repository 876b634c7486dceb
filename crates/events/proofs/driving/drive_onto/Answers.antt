use Rattle.std.proofs.Common.{◌≡◌, ◌<◌, ◌∙◌, length, get_or, arith}
use Rattle.std.proofs.lemmas.List.{get_or_default}
use Rattle.events.proofs.DrivenValues.{one_driven}
use Rattle.events.proofs.driving.drive_onto.Goals as goal

pub loop-k-preserved : goal.loop-k-preserved
loop-k-preserved g c =
    let ids = c.args.ids.now in
    let k = c.loop-k.k in
    let l : k < length ids = c.loop-k-test.true in
    let here : c.index-ids-k.result ≡ get_or ids k 0 = c.index-ids-k.is ∙ get_or_default ids k c.index-ids-k.result 0 l in
    let low = c.requires.within k 0 l in
    let size = c.loop-k.invariant.driven_is.size in
    let all = c.requires.size in
    let enough = c.requires.enough in
    one_driven (g.L.Logic.rule c.args.rule.now) c.args.netlist.now c.args.tables.now.places.items ids c.args.driven.now c.args.values.now.items c.loop-k.values.items c.put_value.new.values.items
    c.args.agenda.now c.loop-k.agenda c.put_value.new.agenda k c.index-ids-k.result c.line-value.result c.index-driven-k.result
    c.loop-k.invariant c.put_value.ensures l (omega arith) (omega arith) here (λ j m. c.requires.distinct j k 0 m l) c.index-driven-k.is c.line-value.ensures
