-- What a worker has at hand between two claims.
use Rattle.std.specs.Prelude.{◌<◌, ◌≤◌, Vec, vec_len}
use Rattle.std.specs.List.{All}
use Rattle.std.specs.declared.alloc.Global.{Global}
use Rattle.cubes.specs.Cubes.{Cube, IsCubeOf}
use Rattle.list_core.specs.Subjects.{Subject}
use Rattle.shared_list.specs.Tally.{Tally}

-- a share of the list, and cubes, fewer than a batch has, for each of which the share has a claim
pub record IsStock (j : Subject) (share : Tally) (cubes : Vec Cube Global) : Type 0 where
  pub few : vec_len cubes < 64
  pub unspent : vec_len cubes ≤ share.unspent
  pub wide : All (IsCubeOf j.netlist j.holds) cubes.items
