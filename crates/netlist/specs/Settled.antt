-- Values by the number of their signal, and as they are read.
use Rattle.std.specs.Prelude.{ℕ, ◌≡◌, List, map, length, slice_index_or}
use Rattle.statement.specs.Values.{Rule, on_pins}

-- values by the number of the signal
abbrev pub at : {V : Type 0} → List V → V → ℕ → V
at values d x = slice_index_or values x d

-- the values on the first pins of z, which read these signals
pub record AreRead {V : Type 0} (rule : Rule V) (z : ℕ) (values : List V) (ids : List ℕ) (pins : List V) : Type 0 where
  pub count : length pins ≡ length ids
  pub each : (d : V) → pins ≡ on_pins rule z 0 (map (at values d) ids)
