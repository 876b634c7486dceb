use Rattle.std.proofs.Common.{◌≡◌}
use Rattle.statement.specs.Netlists.{signals}
use Rattle.netlist.proofs.Alike.{settles_once}
use Rattle.netlist.proofs.Lists.{All-from_contains}
use Rattle.netlist.proofs.laws.settles_once.Goals as goal

pub returns : goal.returns
returns g c same decides rule n inputs state a b closed acyclic p q =
    All-from_contains (λ x. a x ≡ b x) (signals n) (settles_once same decides rule n inputs state a b closed acyclic p q)
