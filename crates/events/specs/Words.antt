-- Words: 64 patterns side by side, a bit for each. (Parallel-pattern simulation: Waicukauski and others, 1985.)
use Rattle.std.specs.Prelude.{ℕ, ◌<◌, ◌==◌, Bool, false, List, [], ◌∷◌, map, Option, Some, None, bit_and, bit_or, bit_xor, if◌then◌else◌}
use Rattle.std.specs.Int.{bit_at}
use Rattle.statement.specs.declared.kinds.Kind.{Kind}
use Rattle.statement.specs.declared.kinds.Kind.TheVariants.{And, Nand, Or, Nor, Xor, Xnor, Not, Buff, Dff, Const0, Const1}
use Rattle.statement.specs.declared.lines.Fault.{Fault}
use Rattle.statement.specs.Netlists.{Netlist}
use Rattle.statement.specs.Values.{Rule, Settles, Table, with_fault, bits}
use Rattle.events.specs.Stuck.{is_at}

-- every bit is 1
abbrev pub ones : ℕ
ones = 18446744073709551615

abbrev pub all_of : List ℕ → ℕ
all_of [] = ones
all_of (w ∷ ws) = bit_and w (all_of ws)

abbrev pub some_of : List ℕ → ℕ
some_of [] = 0
some_of (w ∷ ws) = bit_or w (some_of ws)

abbrev pub odd_of : List ℕ → ℕ
odd_of [] = 0
odd_of (w ∷ ws) = bit_xor w (odd_of ws)

abbrev pub only_of : List ℕ → ℕ
only_of [] = 0
only_of (w ∷ ws) = w

abbrev pub gate_word : Kind → List ℕ → ℕ
gate_word And words = all_of words
gate_word Nand words = bit_xor (all_of words) ones
gate_word Or words = some_of words
gate_word Nor words = bit_xor (some_of words) ones
gate_word Xor words = odd_of words
gate_word Xnor words = bit_xor (odd_of words) ones
gate_word Not words = bit_xor (only_of words) ones
gate_word Buff words = only_of words
gate_word Dff words = only_of words
gate_word Const0 words = 0
gate_word Const1 words = ones

abbrev pub word_table : Table ℕ
word_table = record { known = λ b. if b then ones else 0; gate = gate_word }

-- words, where one line may be stuck
abbrev pub words : Option Fault → Rule ℕ
words = with_fault word_table

-- whether the equation of a signal has the stuck line
abbrev pub is_stuck_at : Option Fault → ℕ → Bool
is_stuck_at None x = false
is_stuck_at (Some f) x = is_at f.line x

-- the bit of a pattern
abbrev pub bit_of : ℕ → ℕ → Bool
bit_of j word = bit_at word j == 1

-- Bit j of settled words settles as the bits of pattern j.
abbrev pub WordsSettleAsBits : Type 0
WordsSettleAsBits =
    (f : Option Fault) (n : Netlist) (inputs state : List ℕ) (a : ℕ → ℕ) (j : ℕ) → j < 64
    → Settles (words f) n inputs state a → Settles (bits f) n (map (bit_of j) inputs) (map (bit_of j) state) (λ x. bit_of j (a x))
