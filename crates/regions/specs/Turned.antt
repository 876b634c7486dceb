-- Values settled where the stem of one signal turns its value over.
-- (Parallel-pattern single fault propagation from the head of a fanout-free region: Antreich and Schulz, Accelerated fault simulation and
-- fault grading in combinational circuits, 1987.)
use Rattle.std.specs.Prelude.{ℕ, ◌<◌, Bool, not, cond, List, map, bit_xor, if◌then◌else◌}
use Rattle.statement.specs.declared.lines.Line.TheVariants.{Stem}
use Rattle.statement.specs.Values.{gate_bit, Rule, Settles, is_line}
use Rattle.statement.specs.Netlists.{Netlist}
use Rattle.events.specs.Words.{bit_of, gate_word}

-- a bit turned over, or left as it is
abbrev pub turned : Bool → Bool → Bool
turned t b = cond t (not b) b

-- bits, where the stem of h turns its bit over, or leaves it as it is
abbrev pub turned_bits : ℕ → Bool → Rule Bool
turned_bits h t = record { line = λ l b. cond (is_line (Stem h) l) (turned t b) b; gate = λ d. gate_bit d.kind }

-- words, where the stem of h turns its word over in the patterns of a mask
abbrev pub turned_words : ℕ → ℕ → Rule ℕ
turned_words h mask = record { line = λ l w. if is_line (Stem h) l then bit_xor w mask else w; gate = λ d. gate_word d.kind }

-- Bit j of settled words settles as the bits of pattern j, turned over where the mask has the bit.
abbrev pub TurnedWordsSettleAsBits : Type 0
TurnedWordsSettleAsBits =
    (h mask : ℕ) (n : Netlist) (inputs state : List ℕ) (a : ℕ → ℕ) (j : ℕ) → j < 64
    → Settles (turned_words h mask) n inputs state a → Settles (turned_bits h (bit_of j mask)) n (map (bit_of j) inputs) (map (bit_of j) state) (λ x. bit_of j (a x))
