-- A bit for each of 128 machines, in two words.
use Rattle.std.specs.Prelude.{ℕ, zero, suc, ◌*◌, ◌/◌, ◌%◌, ◌^◌, Bool, bit_and, bit_or, bit_xor, if◌then◌else◌}
use Rattle.std.specs.Int.{bit_not, w64}
use Rattle.events.specs.Words.{bit_of, ones}
use Rattle.lane_play.specs.declared.bits.Bits.{Bits}

abbrev pub word_of : ℕ → Bits → ℕ
word_of zero p = p.low
word_of (suc i) p = p.high

-- the bit of machine k
abbrev pub bit_in : ℕ → Bits → Bool
bit_in k p = bit_of (k % 64) (word_of (k / 64) p)

abbrev pub no_bits : Bits
no_bits = record { low = 0; high = 0 }

abbrev pub all_bits : Bits
all_bits = record { low = ones; high = ones }

abbrev pub bits_and : Bits → Bits → Bits
bits_and p q = record { low = bit_and p.low q.low; high = bit_and p.high q.high }

abbrev pub bits_or : Bits → Bits → Bits
bits_or p q = record { low = bit_or p.low q.low; high = bit_or p.high q.high }

abbrev pub bits_xor : Bits → Bits → Bits
bits_xor p q = record { low = bit_xor p.low q.low; high = bit_xor p.high q.high }

abbrev pub bits_not : Bits → Bits
bits_not p = bits_xor p all_bits

-- ---- one bit becomes another

abbrev pub one_at : ℕ → ℕ
one_at j = 1 * 2 ^ j % 2 ^ 64

abbrev pub put : Bool → ℕ → ℕ → ℕ
put b j w = if b then bit_or w (one_at j) else bit_and w (bit_not w64 (one_at j))

abbrev pub put_in : ℕ → ℕ → Bool → Bits → Bits
put_in zero j b p = record { low = put b j p.low; high = p.high }
put_in (suc i) j b p = record { low = p.low; high = put b j p.high }

-- the bit of machine k becomes this
abbrev pub with_bit : ℕ → Bool → Bits → Bits
with_bit k b p = put_in (k / 64) (k % 64) b p
