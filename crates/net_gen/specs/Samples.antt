-- Sample netlists, drawn from words.
use Rattle.std.specs.Prelude.{ℕ, zero, suc, ◌+◌, ◌/◌, ◌%◌, ◌==◌, Bool, true, false, List, [], ◌∷◌, ◌++◌, map, if◌then◌else◌, decimal}
use Rattle.std.specs.List.{range_with_len}
use Rattle.rand_core.specs.Stream.{Stream, next_u32}
use Rattle.rand_core.specs.Steps.{stream_of, steps_u32}
use Rattle.rand_pcg.specs.Lcg.{started, increment_of}
use Rattle.rand_pcg.specs.Pcg.{multiplier_64, pcg32}
use Rattle.statement.specs.declared.kinds.Kind.{Kind}
use Rattle.statement.specs.declared.kinds.Kind.TheVariants.{And, Nand, Or, Nor, Xor, Xnor, Not, Buff, Dff, Const0, Const1}
use Rattle.statement.specs.Netlists.{Definition, Netlist}

-- the next word, and the words behind it
abbrev pub first_word : Stream → ℕ
first_word words = (next_u32 words).0

abbrev pub rest : Stream → Stream
rest words = (next_u32 words).1

-- AND, NAND, OR, NOR, XOR, XNOR, NOT
abbrev pub sampled_kind : ℕ → Kind
sampled_kind k =
    if k == 0 then And else (if k == 1 then Nand else (if k == 2 then Or else (if k == 3 then Nor else (if k == 4 then Xor else (if k == 5 then Xnor else Not)))))

abbrev pub is_inverter : Kind → Bool
is_inverter Not = true
is_inverter And = false
is_inverter Nand = false
is_inverter Or = false
is_inverter Nor = false
is_inverter Xor = false
is_inverter Xnor = false
is_inverter Buff = false
is_inverter Dff = false
is_inverter Const0 = false
is_inverter Const1 = false

-- the pins of a gate among the signals 0 to id - 1: one of a NOT, two of any other
abbrev pub drawn_pins : Kind → ℕ → Stream → List ℕ
drawn_pins kind id words =
    if is_inverter kind then first_word words % id ∷ [] else first_word words % id ∷ first_word (rest words) % id ∷ []

abbrev pub after_pins : Kind → Stream → Stream
after_pins kind words = if is_inverter kind then rest words else rest (rest words)

-- a gate: first its kind is drawn, then its pins
abbrev pub drawn_gate : ℕ → Stream → Definition
drawn_gate id words =
    record { id = id; kind = sampled_kind (first_word words % 7); pins = drawn_pins (sampled_kind (first_word words % 7)) id (rest words) }

abbrev pub after_gate : Stream → Stream
after_gate words = after_pins (sampled_kind (first_word words % 7)) (rest words)

-- so many gates, with the ids from this one on
abbrev pub drawn_gates : ℕ → ℕ → Stream → List Definition
drawn_gates zero id words = []
drawn_gates (suc count) id words = drawn_gate id words ∷ drawn_gates count (id + 1) (after_gate words)

abbrev pub after_gates : ℕ → Stream → Stream
after_gates zero words = words
after_gates (suc count) words = after_gates count (after_gate words)

-- so many cells, each of which takes the value of one of the gates, which have the ids from `first` on
abbrev pub drawn_cells : ℕ → ℕ → ℕ → ℕ → Stream → List Definition
drawn_cells zero id first gates words = []
drawn_cells (suc count) id first gates words =
    record { id = id; kind = Dff; pins = (first + first_word words % gates) ∷ [] } ∷ drawn_cells count (id + 1) first gates (rest words)

-- a letter before each number below the count
abbrev pub lettered_names : ℕ → ℕ → List (List ℕ)
lettered_names letter count = map (λ k. letter ∷ decimal k) (range_with_len 0 count)

-- Inputs i0 to i7, cells q0 and so on, gates g0 and so on; the last eight gates are the outputs.
-- The gates are drawn first, and then what the cells take. The cells are defined before the gates.
abbrev pub sample_of : ℕ → ℕ → Stream → Netlist
sample_of cells gates words = record {
  names = lettered_names 105 8 ++ (lettered_names 113 cells ++ lettered_names 103 gates);
  inputs = range_with_len 0 8;
  outputs = range_with_len (cells + gates) 8;
  definitions = drawn_cells cells 8 (8 + cells) gates (after_gates gates words) ++ drawn_gates gates (8 + cells) words;
}

-- one cell for eight gates
abbrev pub sample : ℕ → Stream → Netlist
sample gates words = sample_of (gates / 8) gates words

-- the words of the generator of a seed, on stream 54 (O'Neill, PCG: XSH RR 64/32)
abbrev pub words_from_seed : ℕ → Stream
words_from_seed seed = stream_of (steps_u32 pcg32) (started 64 multiplier_64 seed (increment_of 64 54))
