-- What may be scanned: the names that insertion makes begin with `SC__` and are up to six bytes longer than the design's.
use Rattle.std.specs.Prelude.{ℕ, ◌≡◌, ◌≤◌, Bool, false, nat_eq, List, length, codes}
use Rattle.std.specs.List.{All, starts_with}
use Rattle.statement.specs.Netlists.{Netlist, signals}

-- a name that a design may not have
abbrev pub is_reserved : List ℕ → Bool
is_reserved name = starts_with nat_eq name (codes "SC__")

abbrev pub most_design_signals : ℕ
most_design_signals = 1000000

-- names of no more than 255 bytes that don't begin with `SC__`
pub record IsDesign (n : Netlist) : Type 0 where
  pub small : length (signals n) ≤ most_design_signals
  pub short : All (λ name. length name ≤ 255) n.names
  pub unreserved : All (λ name. is_reserved name ≡ false) n.names
