-- Words turned over at one stem: their bits, and what a gate makes of its pins.
use Rattle.std.proofs.Common.{◌≡◌, ℕ, ◌<◌, Bool, true, false, not, cond, List, map, None, refl, sym, ◌∙◌, ap, bit_xor}
use Rattle.statement.specs.declared.lines.Line.TheVariants.{Stem}
use Rattle.statement.specs.Netlists.{Definition, Netlist}
use Rattle.statement.specs.Values.{Settles, is_line}
use Rattle.regions.specs.Turned.{turned, turned_bits, turned_words}
use Rattle.events.specs.Waiting.{given}
use Rattle.events.specs.Words.{gate_word, bit_of, words}
use Rattle.events.proofs.WordBits.{bit_gate, bit_of_xor, image_settles}
use Rattle.regions.proofs.TurnedOver.{free_pins, turned_pins}

turned_is : (u v : Bool) → cond u (not v) v ≡ turned v u
turned_is true true = refl
turned_is true false = refl
turned_is false true = refl
turned_is false false = refl

module _ (j h mask : ℕ) (low : j < 64) where
  bit_turned : (here : Bool) (w : ℕ) → bit_of j (cond here (bit_xor w mask) w) ≡ cond here (turned (bit_of j mask) (bit_of j w)) (bit_of j w)
  bit_turned true w = bit_of_xor w mask j ∙ turned_is (bit_of j w) (bit_of j mask)
  bit_turned false w = refl

  pub turned_as_bits : (n : Netlist) (inputs state : List ℕ) (a : ℕ → ℕ) → Settles (turned_words h mask) n inputs state a
      → Settles (turned_bits h (bit_of j mask)) n (map (bit_of j) inputs) (map (bit_of j) state) (λ x. bit_of j (a x))
  turned_as_bits n inputs state a s =
      image_settles (bit_of j) (turned_words h mask) (turned_bits h (bit_of j mask)) (λ l w. bit_turned (is_line (Stem h) l) w) (λ d ws. bit_gate j low d.kind ws) n inputs state a s

-- what the stem makes of what the gate makes without it
pub turned_made : (h mask : ℕ) (a : ℕ → ℕ) (d : Definition) → (turned_words h mask).line (Stem d.id) (given (words None) a d) ≡ given (turned_words h mask) a d
turned_made h mask a d =
    ap (λ vs. (turned_words h mask).line (Stem d.id) (gate_word d.kind vs)) (free_pins d.id 0 (map a d.pins) ∙ sym (turned_pins h mask d.id 0 (map a d.pins)))
