-- Which of up to 64 patterns detect a fault: by a word with a bit for each.
use Rattle.std.specs.Prelude.{ℕ, ◌≡◌, ◌≢◌, ◌<◌, ◌≤◌, ◌↔◌, true, false, List, [], length, slice_index_or, Option, None, IfSome}
use Rattle.statement.specs.declared.lines.Fault.{Fault}
use Rattle.statement.specs.declared.lines.Point.{Point}
use Rattle.statement.specs.Netlists.{Netlist, signals}
use Rattle.statement.specs.Patterns.{Pattern, observed}
use Rattle.statement.specs.Values.{bits}
use Rattle.events.specs.Standing.{SettlesOver}
use Rattle.events.specs.Words.{bit_of, ones, words}
use Rattle.observed_points.specs.Points.{ArePoints}
use Rattle.regions.specs.Paths.{bits_at, AreOpen}
use Rattle.regions.specs.Turned.{turned_words}
use Rattle.word_sim.specs.inner.Groups.{HasRoom}
use Rattle.word_sim.specs.inner.Packed.{AreGoodFor, AreSettledWords}
use Rattle.detections.specs.Times.{IsDetectedBy}
use Rattle.detections.specs.declared.telling.Teller.{Teller}

-- the word has the patterns, of a list of up to 64, that detect the fault
abbrev pub TellsPatterns : Netlist → List Pattern → Fault → ℕ → Type 0
TellsPatterns n patterns f word = (j : ℕ) → j < length patterns → (bit_of j word ≡ true) ↔ IsDetectedBy n patterns f j

-- the same of the first m patterns, and of no other
pub record TellsFirst (n : Netlist) (patterns : List Pattern) (f : Fault) (m word : ℕ) : Type 0 where
  pub first : (j : ℕ) → j < m → (bit_of j word ≡ true) ↔ IsDetectedBy n patterns f j
  pub others : (j : ℕ) → m ≤ j → j < 64 → bit_of j word ≡ false

-- some point sees pattern j otherwise in one list of words than in the other
abbrev pub IsSeen : Netlist → List ℕ → List ℕ → ℕ → Type 0
IsSeen n values new j = (point : Point) × (observed (bits None) n (bits_at values j) point ≢ observed (bits None) n (bits_at new j) point)

-- the word has the patterns under which some point sees the signal turned over
pub record IsSeenUnder (n : Netlist) (values : List ℕ) (x word : ℕ) : Type 0 where
  pub new : List ℕ
  pub over : SettlesOver (words None) (turned_words x ones) n values new
  pub seen : (j : ℕ) → j < 64 → (bit_of j word ≡ true) ↔ IsSeen n values new j

-- what is known of signals
pub record AreSeenUnder (n : Netlist) (values : List ℕ) (known : List (Option ℕ)) : Type 0 where
  pub size : length known ≡ length (signals n)
  pub each : (x : ℕ) → IfSome (slice_index_or known x None) (IsSeenUnder n values x)

-- what a teller has between two batches: settled words, the points of the netlist, and room for its signals
pub record IsReady (n : Netlist) (t : Teller) : Type 0 where
  pub netlist : t.events.netlist ≡ n
  pub settled : AreSettledWords n t.events.values
  pub points : ArePoints n t.points.seen.items t.points.first.items t.points.numbers.items
  pub room : HasRoom n t.paths.heads.items t.paths.opens.items
  pub size : length t.seen.items ≡ length (signals n)

-- what it has of these patterns
pub record CanTell (n : Netlist) (patterns : List Pattern) (t : Teller) : Type 0 where
  pub netlist : t.events.netlist ≡ n
  pub good : AreGoodFor n patterns t.events.values
  pub trail : t.events.trail ≡ []
  pub points : ArePoints n t.points.seen.items t.points.first.items t.points.numbers.items
  pub opens : AreOpen n t.events.values t.paths.heads.items t.paths.opens.items
  pub known : AreSeenUnder n t.events.values t.seen.items
