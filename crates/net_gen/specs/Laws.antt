-- What every sample netlist is.
use Rattle.std.specs.Prelude.{ℕ, ◌≤◌}
use Rattle.plain_text.specs.Limits.{fewest_gates, most_gates}
use Rattle.rand_core.specs.Stream.{Stream}
use Rattle.netlist.specs.Conditions.{IsSound}
use Rattle.netlist.specs.Designs.{IsDesign}
use Rattle.net_gen.specs.Samples.{sample}

-- It meets all that is asked of a netlist; so it has no loop.
abbrev pub SamplesAreSound : Type 0
SamplesAreSound = (gates : ℕ) (words : Stream) → fewest_gates ≤ gates → gates ≤ most_gates → IsSound (sample gates words)

-- It may be scanned.
abbrev pub SamplesAreDesigns : Type 0
SamplesAreDesigns = (gates : ℕ) (words : Stream) → fewest_gates ≤ gates → gates ≤ most_gates → IsDesign (sample gates words)
