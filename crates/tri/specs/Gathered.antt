-- What three values are together, from which each kind of gate takes its value.
use Rattle.std.specs.Prelude.{ℕ, ◌≡◌, ◌+◌, Bool, List, map, if◌then◌else◌}
use Rattle.std.specs.List.{list_any}
use Rattle.statement.specs.declared.kinds.Tri.{Tri}
use Rattle.statement.specs.declared.kinds.Tri.TheVariants.{Zero, One, X}
use Rattle.statement.specs.Values.{parity}
use Rattle.tri.specs.declared.together.Together.{Together}
use Rattle.netlist.specs.ThreeValues.{is_zero, is_one, is_x}
use Rattle.tri.specs.Gates.{only_tri}

-- the bit of a value
abbrev pub mark : Tri → ℕ
mark Zero = 1
mark One = 2
mark X = 4

-- the bits of those that are there
abbrev pub marks : Bool → Bool → Bool → ℕ
marks zero one unknown = (if zero then 1 else 0) + ((if one then 2 else 0) + (if unknown then 4 else 0))

pub record AreTriReductionsOf (values : List Tri) (t : Together) : Type 0 where
  pub seen_is : t.seen ≡ marks (list_any is_zero values) (list_any is_one values) (list_any is_x values)
  pub odd_is : t.odd ≡ parity (map is_one values)
  pub first_is : t.first ≡ only_tri values
