-- What a worker has at hand.
use Rattle.std.proofs.Common.{◌≡◌, ◌<◌, ◌≤◌, List, [], length, sym, ap, subst, arith}
use Rattle.std.specs.Prelude.{Vec, vec_len}
use Rattle.std.specs.List.{All}
use Rattle.std.specs.declared.alloc.Global.{Global}
use Rattle.cubes.specs.Cubes.{Cube, IsCubeOf}
use Rattle.list_core.specs.Subjects.{Subject}
use Rattle.shared_list.specs.Tally.{Tally}
use Rattle.worker.specs.inner.Stock.{IsStock}
use Rattle.worker.proofs.WorkLemmas.{none_of}

-- no cubes at the start
pub none_at_hand : (j : Subject) (share : Tally) (cubes : Vec Cube Global) → cubes.items ≡ [] → vec_len cubes ≡ 0 → IsStock j share cubes
none_at_hand j share cubes none len = record {
  few = omega (arith, len);
  unspent = omega (arith, len);
  wide = subst (All (IsCubeOf j.netlist j.holds)) (sym none) (none_of (IsCubeOf j.netlist j.holds));
}

pub lent_below : (cubes : Vec Cube Global) (lent : List Cube) → lent ≡ cubes.items → vec_len cubes < 64 → length lent ≤ 64
lent_below cubes lent same few = omega (arith, cubes.ok.0, ap length same, few)
