use Rattle.std.proofs.Common.{List, subst, sym}
use Rattle.std.specs.List.{All}
use Rattle.statement.specs.declared.lines.Fault.{Fault}
use Rattle.netlist.specs.Lines.{IsLineOf}
use Rattle.fewer_patterns.proofs.fronts.tells_of_others.Goals as goal

pub last_tells_beside-requires-clause-lines : goal.last_tells_beside-requires-clause-lines
last_tells_beside-requires-clause-lines g c κs lives =
    let a = c.args.aim.now in
    let P : List Fault → Type 0 = λ fs. All (λ (f : Fault). IsLineOf a.core.now f.line) fs in
    subst P (sym c.deref.ensures.value) (c.in_ok-others.ensures.lines a.core.now c.requires.aim.lines)
