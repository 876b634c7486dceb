use Rattle.std.proofs.Common.{◌≡◌, true}
use Rattle.statement.specs.Netlists.{signals}
use Rattle.netlist.proofs.Alike.{signals_alike, outs_alike, next_alike}
use Rattle.netlist.proofs.Lists.{All-from_contains}
use Rattle.netlist.proofs.laws.settle_alike.Goals as goal

pub returns : goal.returns
returns g c related rule rule' n inputs state inputs' state' a b closed acyclic keeps i s p q = (
  All-from_contains (λ x. related (a x) (b x) ≡ true) (signals n)
      (signals_alike related rule rule' n keeps closed acyclic inputs state inputs' state' a b i s p q),
  outs_alike related rule rule' n keeps closed acyclic inputs state inputs' state' a b i s p q,
  next_alike related rule rule' n keeps closed acyclic inputs state inputs' state' a b i s p q,
)
