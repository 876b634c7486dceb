use Rattle.std.proofs.Common.{◌≡◌, ◌+◌, true, List, length, take, ap, sym, subst, arith}
use Rattle.std.specs.List.{All}
use Rattle.std.proofs.lemmas.List.{take_all}
use Rattle.statement.specs.Netlists.{Definition, is_cell}
use Rattle.netlist.proofs.Lists.{filter_from}
use Rattle.scan_play.specs.inner.Plans.{AreMarked}
use Rattle.scan_play.proofs.PlanMarks.{all_more}
use Rattle.scan_play.proofs.planning.are_cells_marked.Goals as goal

pub loop-definition-preserved : goal.loop-definition-preserved
loop-definition-preserved c =
    let P : Definition → Type 0 = λ d. is_cell d ≡ true → AreMarked c.args.marks.now d.pins in
    let e = c.definitions-definition-items.ensures in
    subst (λ (ds : List Definition). All P (take (c.loop-definition.definition-index + 1) ds)) e
    (all_more P c.definitions-definition-items.result.now c.loop-definition.definition-index c.definition-item.result c.loop-definition-test.true c.definition-item.is
    (subst (λ (ds : List Definition). All P (take c.loop-definition.definition-index ds)) (sym e) c.loop-definition.invariant)
    (c.is_cell_marked.ensures c.if-not-is_cell_marked.false))

pub returns : goal.returns
returns c e =
    let P : Definition → Type 0 = λ d. AreMarked c.args.marks.now d.pins in
    let ds = c.args.netlist.now.definitions in
    let is = ap length c.definitions-definition-items.ensures in
    filter_from P is_cell ds
    (subst (All (λ (d : Definition). is_cell d ≡ true → P d)) (take_all c.loop-definition.definition-index ds (let f = c.loop-definition-test.false in omega arith)) c.loop-definition.invariant)
