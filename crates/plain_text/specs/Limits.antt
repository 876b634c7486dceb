-- How far the numbers of a command go.
use Rattle.std.specs.Prelude.{ℕ}

abbrev pub most_chains : ℕ
most_chains = 256

abbrev pub most_workers : ℕ
most_workers = 64

-- the greatest backtrack limit: the most ends that a search may close
abbrev pub most_limit : ℕ
most_limit = 100000

-- how many gates a sample netlist may have
abbrev pub fewest_gates : ℕ
fewest_gates = 16

abbrev pub most_gates : ℕ
most_gates = 20000
