use Rattle.std.proofs.Common.{subst, OnOk}
use Rattle.statement.specs.Netlists.{Netlist}
use Rattle.statement.specs.Values.{Settles}
use Rattle.netlist.specs.Settled.{at}
use Rattle.netlist.proofs.evaluation.Core.settle_into.Goals as goal

pub returns-clause-settled : goal.returns-clause-settled
returns-clause-settled g c =
    subst (λ (n : Netlist). OnOk c.settle_into.result ((d : g.row.L-Value.Denot) → Settles (g.L.Logic.rule c.args.logic.now) n c.args.inputs.now c.args.state.now (at c.settle_into.new.values.items d)))
    c.self.view_is c.settle_into.ensures.settled
