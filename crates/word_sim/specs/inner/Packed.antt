-- Patterns packed into words, a bit for each.
use Rattle.std.specs.Prelude.{ℕ, ◌≡◌, ◌<◌, ◌≤◌, Bool, true, false, List, map, length, None, Some, nat_lt, slice_index_or}
use Rattle.std.specs.List.{slice_get}
use Rattle.statement.specs.Patterns.{Pattern}
use Rattle.statement.specs.Netlists.{Netlist}
use Rattle.statement.specs.Values.{Settles}
use Rattle.netlist.specs.Settled.{at}
use Rattle.events.specs.Words.{bit_of, words}
use Rattle.word_sim.specs.declared.packing.Part.{Part}
use Rattle.word_sim.specs.declared.packing.Part.TheVariants.{Inputs, Cells}

-- the bits of a part of a pattern
abbrev pub bits_in : Part → Pattern → List Bool
bits_in Inputs p = p.inputs
bits_in Cells p = p.cells

-- the word has at j the bit at place k of pattern j, for the first m patterns, and no other bit
pub record IsColumn (part : Part) (patterns : List Pattern) (k m word : ℕ) : Type 0 where
  pub here : (j : ℕ) (p : Pattern) → j < m → slice_get patterns j ≡ Some p → bit_of j word ≡ slice_index_or (bits_in part p) k false
  pub others : (j : ℕ) → m ≤ j → j < 64 → bit_of j word ≡ false

-- a word for each place
pub record ArePacked (part : Part) (patterns : List Pattern) (width : ℕ) (words : List ℕ) : Type 0 where
  pub size : length words ≡ width
  pub each : (j : ℕ) (p : Pattern) → slice_get patterns j ≡ Some p → length (bits_in part p) ≡ width → map (bit_of j) words ≡ bits_in part p

-- the word has the bits below m
abbrev pub IsUsed : ℕ → ℕ → Type 0
IsUsed m word = (j : ℕ) → j < 64 → (bit_of j word ≡ nat_lt j m)

-- each bit of the word is that of a pattern, of which there are m
abbrev pub IsMarked : ℕ → ℕ → Type 0
IsMarked m word = (j : ℕ) → j < 64 → bit_of j word ≡ true → j < m

-- words that settle without a fault for the words of these patterns
pub record AreGoodFor (n : Netlist) (patterns : List Pattern) (values : List ℕ) : Type 0 where
  pub few : length patterns ≤ 64
  pub inputs : List ℕ
  pub state : List ℕ
  pub inputs_are : (j : ℕ) (p : Pattern) → slice_get patterns j ≡ Some p → map (bit_of j) inputs ≡ p.inputs
  pub state_are : (j : ℕ) (p : Pattern) → slice_get patterns j ≡ Some p → map (bit_of j) state ≡ p.cells
  pub settles : (d : ℕ) → Settles (words None) n inputs state (at values d)

-- words that settle without a fault, whatever is driven
pub record AreSettledWords (n : Netlist) (values : List ℕ) : Type 0 where
  pub inputs : List ℕ
  pub state : List ℕ
  pub settles : (d : ℕ) → Settles (words None) n inputs state (at values d)
