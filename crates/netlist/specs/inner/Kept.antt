-- What a netlist keeps beside its parts (private to this crate).
use Rattle.std.specs.Prelude.{ℕ, ◌≡◌, ◌≤◌, List, length, map}
use Rattle.statement.specs.declared.lines.Line.{Line}
use Rattle.statement.specs.Netlists.{Definition, Netlist, cells, signals}
use Rattle.netlist.specs.Conditions.{IsSized, IsSound}
use Rattle.netlist.specs.Orders.{IsOrder}
use Rattle.netlist.specs.inner.Sorting.{AreReaders}

pub record IsKept (n : Netlist) (flip_flops : List ℕ) (table : List (List Line)) (order : List ℕ) : Type 0 where
  pub sound : IsSound n
  pub flip_flops_are : flip_flops ≡ map (λ (d : Definition). d.id) (cells n)
  pub readers_are : AreReaders n table
  pub ordered : IsOrder n order

-- there are neither too many signals nor too few, and no name but theirs
pub record AreNamed (n : Netlist) : Type 0 where
  pub sized : IsSized n
  pub names : length n.names ≤ length (signals n)

-- sound, with these readers and this order
pub record IsArranged (n : Netlist) (table : List (List Line)) (order : List ℕ) : Type 0 where
  pub sound : IsSound n
  pub readers_are : AreReaders n table
  pub ordered : IsOrder n order
