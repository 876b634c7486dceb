use Rattle.std.proofs.Common.{◌≡◌, true}
use Rattle.statement.specs.Netlists.{signals}
use Rattle.netlist.proofs.Acyclic.{everywhere}
use Rattle.netlist.proofs.Lists.{All-from_contains}
use Rattle.netlist.proofs.laws.holds_everywhere.Goals as goal

pub returns : goal.returns
returns c n holds closed acyclic at_inputs at_cells at_gates =
    All-from_contains (λ x. holds x ≡ true) (signals n) (everywhere n holds closed at_inputs at_cells at_gates acyclic)
