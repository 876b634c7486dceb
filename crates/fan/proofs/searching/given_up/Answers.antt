use Rattle.std.proofs.Common.{◌∙◌, Bool, subst, arith}
use Rattle.decisions.specs.Standing.{SearchesAt}
use Rattle.decisions.proofs.Finish.{one_tree, gave_up}
use Rattle.fan.specs.inner.Searching.{PlaceLooked}
use Rattle.fan.proofs.Looked.{fits_looked, tree_looked}
use Rattle.fan.proofs.Turns.{splits_places}
use Rattle.fan.proofs.searching.given_up.Goals as goal

pub new-requires : goal.new-requires
new-requires c = one_tree c.requires.given c.in_ok-nodes.ensures

pub returns : goal.returns
returns c =
    let f = c.args.roled.now.case.fault in
    let n = c.args.roled.now.case.core.now in
    let holds = c.args.roled.now.case.holds.now in
    let looked = subst (λ (b : Bool). SearchesAt (PlaceLooked b f n holds) f n holds c.args.labels.now c.args.stack.items c.args.limit) c.requires.looks c.requires.given in
    let w = gave_up (fits_looked f n holds) looked (c.new.ensures ∙ c.in_ok-nodes.ensures) (omega arith) (omega arith) in
    (w.0, (tree_looked f n holds w.1, λ ids all. w.2 ids (splits_places f n holds ids all)))
