use Rattle.std.proofs.Common.{subst, IfOk}
use Rattle.statement.specs.Netlists.{Netlist}
use Rattle.statement.specs.Values.{Settles}
use Rattle.netlist.specs.Settled.{at}
use Rattle.netlist.proofs.evaluation.Core.settle.Goals as goal

pub returns-clause-settled : goal.returns-clause-settled
returns-clause-settled g c =
    subst (λ (n : Netlist). IfOk c.settle.result (λ v. (d : g.row.L-Value.Denot) → Settles (g.L.Logic.rule c.args.logic.now) n c.args.inputs.now c.args.state.now (at v.items d)))
    c.self.view_is c.settle.ensures.settled
