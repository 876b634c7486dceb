use Rattle.std.specs.Cmp.{booleans_Decides}
use Rattle.std.proofs.lemmas.Slice.Eq.{slice_eq-Decides}
use Rattle.run_files.proofs.JoinLemmas.{other_inputs, same_inputs}
use Rattle.run_files.proofs.differing.are_equal.Goals as goal

pub returns-then-eq : goal.returns-then-eq
returns-then-eq c =
    let p = c.args.one.now in
    let q = c.args.other.now in
    let inputs = slice_eq-Decides booleans_Decides p.inputs q.inputs c.eq.result (simp (c.inputs.ensures, c.inputs-2.ensures) at c.eq.ensures) in
    let cells = slice_eq-Decides booleans_Decides p.cells q.cells c.eq-then-eq.result (simp (c.cells.ensures, c.cells-then-eq.ensures) at c.eq-then-eq.ensures) in
    same_inputs p q c.eq-then-eq.result (inputs.0 c.if-eq.true) cells

pub returns-else-eq : goal.returns-else-eq
returns-else-eq c =
    let p = c.args.one.now in
    let q = c.args.other.now in
    let inputs = slice_eq-Decides booleans_Decides p.inputs q.inputs c.eq.result (simp (c.inputs.ensures, c.inputs-2.ensures) at c.eq.ensures) in
    other_inputs p q c.eq.result c.if-eq.false inputs
