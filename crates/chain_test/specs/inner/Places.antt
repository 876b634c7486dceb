-- The place that a judge of known wrong strobes names.
use Rattle.std.specs.Prelude.{ℕ, Option, Some, None}
use Rattle.scan_play.specs.declared.played.Played.{Played}
use Rattle.scan_play.specs.declared.played.Played.TheVariants.{Passes, Fails, Unknown}

abbrev pub named_place : Played → Option (ℕ × ℕ)
named_place Passes = None
named_place (Fails c o) = Some (c, o)
named_place (Unknown c o) = None

abbrev pub place_of : Option Played → Option (ℕ × ℕ)
place_of None = None
place_of (Some p) = named_place p
