use Rattle.std.proofs.Common.{◌≡◌, true}
use Rattle.statement.specs.Netlists.{signals}
use Rattle.netlist.proofs.Alike.{signals_alike, outs_alike, next_alike}
use Rattle.netlist.proofs.Lists.{All-from_contains}
use Rattle.tri.specs.Known.{allows_tri}
use Rattle.tri.specs.Settled.{tris}
use Rattle.tri.proofs.TriAlike.{keeps_tris}
use Rattle.tri.proofs.laws.three_values_alike.Goals as goal

pub returns : goal.returns
returns c f n inputs state inputs' state' t t' closed acyclic i s p q = (
  All-from_contains (λ x. allows_tri (t x) (t' x) ≡ true) (signals n)
      (signals_alike allows_tri (tris f) (tris f) n (keeps_tris f n) closed acyclic inputs state inputs' state' t t' i s p q),
  outs_alike allows_tri (tris f) (tris f) n (keeps_tris f n) closed acyclic inputs state inputs' state' t t' i s p q,
  next_alike allows_tri (tris f) (tris f) n (keeps_tris f n) closed acyclic inputs state inputs' state' t t' i s p q,
)
