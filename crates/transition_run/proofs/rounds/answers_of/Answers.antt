use Rattle.std.proofs.Common.{List, IfOk, length, subst, sym, ◌∙◌, ap, arith}
use Rattle.netlist.specs.Conditions.{IsSound}
use Rattle.statement.specs.declared.lines.Fault.{Fault}
use Rattle.transition.specs.Searches.{AreFoundWhereLeft}
use Rattle.transition.proofs.Gathering.{universe_few, universe_lines}
use Rattle.transition_run.proofs.rounds.answers_of.Goals as goal

pub search_left-requires-clause-lines : goal.search_left-requires-clause-lines
search_left-requires-clause-lines g c κs within =
    universe_lines c.args.errand.now.core.now (subst IsSound c.netlist.ensures c.sound.ensures) c.args.faults.now c.requires.lines.all

pub search_left-requires-clause-few : goal.search_left-requires-clause-few
search_left-requires-clause-few g c κs within =
    let few = universe_few c.args.errand.now.core.now (subst IsSound c.netlist.ensures c.sound.ensures) c.requires.lines.design in
    omega (arith, few, ap length c.requires.lines.all)

pub search_left-requires-clause-left : goal.search_left-requires-clause-left
search_left-requires-clause-left g c κs within = c.requires.marks ∙ sym (ap length c.requires.lines.all)

pub returns : goal.returns
returns g c =
    let e = c.args.errand.now in
    subst (λ (fs : List Fault). IfOk c.search_left.result (λ v. AreFoundWhereLeft e.core.now e.holds.now c.args.plan.limit g.E.Engine.refutes fs c.args.marks.now v.items))
    c.requires.lines.all c.search_left.ensures
