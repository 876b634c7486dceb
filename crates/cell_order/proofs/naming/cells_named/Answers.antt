use denote.Ref.{Bor}
use Rattle.std.proofs.Common.{ℕ, List, [], get_or}
use Rattle.std.proofs.lemmas.List.{get_or_default}
use Rattle.cell_order.proofs.NameLemmas.{cells_more, stranger}
use Rattle.cell_order.proofs.naming.cells_named.Goals as goal

-- any text: the lemmas ask for a default
none : Bor (List ℕ)
none = record { ref_ptr = (0, 0); now = [] }

pub returns-in_default : goal.returns-in_default
unfolding none
returns-in_default c =
    let texts = c.args.texts.now in
    let k = c.loop-place.place in
    let text = get_or texts k none in
    stranger c.args.names.now texts k text c.loop-place-test.true (get_or_default texts k none text c.loop-place-test.true) c.loop-place.order.items c.loop-place.invariant c.in_default.ensures

pub loop-place-preserved : goal.loop-place-preserved
unfolding none
loop-place-preserved c =
    let texts = c.args.texts.now in
    let k = c.loop-place.place in
    let text = get_or texts k none in
    cells_more c.args.names.now texts k text c.loop-place-test.true (get_or_default texts k none text c.loop-place-test.true) c.loop-place.order.items c.loop-place.invariant c.in-Some.cell
    c.push.new.self.items c.in-Some.ensures.0 c.in-Some.ensures.1 c.in-Ok.ensures.items
