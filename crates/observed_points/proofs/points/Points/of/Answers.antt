use Rattle.std.proofs.Common.{◌+◌, ◌∙◌, List, ℕ, ap, length, arith}
use Rattle.statement.specs.Netlists.{Definition}
use Rattle.netlist.proofs.Placed.{signals_length}
use Rattle.observed_points.proofs.ObservedPoints.{watched_count}
use Rattle.observed_points.proofs.PointTables.{points_few, watched_inside}
use Rattle.observed_points.proofs.points.Points.of.Goals as goal

pub first_of-requires-clause-within : goal.first_of-requires-clause-within
first_of-requires-clause-within c =
    let n = c.netlist-netlist.result.now in
    let a = ap (λ (xs : List ℕ). length xs) c.inputs.ensures in
    let b = ap (λ (xs : List Definition). length xs) c.definitions.ensures in
    let s = signals_length n in
    watched_inside n c.sound.ensures c.deref.result.now (length c.inputs.result.now + length c.definitions.result.now) (c.deref.ensures.value ∙ c.in_ok-seen.ensures) (omega arith)

pub first_of-requires-clause-few : goal.first_of-requires-clause-few
first_of-requires-clause-few c =
    let n = c.netlist-netlist.result.now in
    let few = points_few n c.sound.ensures in
    let e = ap (λ (xs : List ℕ). length xs) (c.deref.ensures.value ∙ c.in_ok-seen.ensures) in
    let w = watched_count n c.sound.ensures in
    omega arith

pub numbers_of-requires : goal.numbers_of-requires
numbers_of-requires c = let few = points_few c.netlist-netlist.result.now c.sound.ensures in omega arith
