-- What the player says: a strobe isn't met where the value isn't known and equal; and what is said where X is passed over.
use Rattle.std.specs.Prelude.{ℕ, Option, Some, None}
use Rattle.statement.specs.declared.kinds.Tri.{Tri}
use Rattle.statement.specs.declared.kinds.Tri.TheVariants.{Zero, One, X}
use Rattle.scan_play.specs.declared.played.Played.{Played}
use Rattle.scan_play.specs.declared.played.Played.TheVariants.{Passes, Fails, Unknown}

-- what the player answers for a strobe and a value at cycle c and output o; nothing where the strobe is met
abbrev pub unmet_by : ℕ → ℕ → Tri → Tri → Option Played
unmet_by c o X v = None
unmet_by c o Zero Zero = None
unmet_by c o Zero One = Some (Fails c o)
unmet_by c o Zero X = Some (Unknown c o)
unmet_by c o One Zero = Some (Fails c o)
unmet_by c o One One = None
unmet_by c o One X = Some (Unknown c o)

abbrev pub or_passes : Option Played → Played
or_passes None = Passes
or_passes (Some p) = p
