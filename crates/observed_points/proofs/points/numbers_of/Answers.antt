use Rattle.std.proofs.Common.{◌≡◌, ◌+◌, ◌∙◌, List, ℕ, ap, sym, subst, length, get_or, set, arith}
use Rattle.std.proofs.lemmas.List.{get_or_default}
use Rattle.observed_points.specs.Points.{AreCellPoints}
use Rattle.observed_points.proofs.PointTables.{numbers_more, cell_inside}
use Rattle.observed_points.proofs.points.numbers_of.Goals as goal

pub index_mut-requires : goal.index_mut-requires
index_mut-requires c =
    let n = c.args.netlist.now in
    let ids = c.cells-ids.result.now in
    let i : c.index.result ≡ get_or ids c.loop-j.j 0 = c.index.ensures ∙ (c.index-ids-j.is ∙ get_or_default ids c.loop-j.j c.index-ids-j.result 0 c.loop-j-test.true) in
    let low = cell_inside n c.sound.ensures ids c.loop-j.j c.cells-ids.ensures c.loop-j-test.true in
    let size = c.loop-j.invariant.size in
    let v = c.loop-j.numbers.ok.0 in
    omega arith

pub loop-j-preserved : goal.loop-j-preserved
loop-j-preserved c =
    let n = c.args.netlist.now in
    let ids = c.cells-ids.result.now in
    let i : c.index.result ≡ get_or ids c.loop-j.j 0 = c.index.ensures ∙ (c.index-ids-j.is ∙ get_or_default ids c.loop-j.j c.index-ids-j.result 0 c.loop-j-test.true) in
    subst (λ k. AreCellPoints n (set c.loop-j.numbers.items c.index.result (k + c.loop-j.j)) (c.loop-j.j + 1)) (sym (ap (λ (xs : List ℕ). length xs) c.outputs-outputs.ensures))
    (numbers_more n c.sound.ensures ids c.loop-j.numbers.items c.loop-j.j c.index.result c.cells-ids.ensures c.loop-j.invariant c.loop-j-test.true i)
