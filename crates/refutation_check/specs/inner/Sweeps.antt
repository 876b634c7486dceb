-- What gates allow, found by going over the trail.
use Rattle.std.specs.Prelude.{ℕ, ◌≡◌, ◌↔◌, ◌+◌, ◌<◌, ◌≤◌, ◌⊎◌, Bool, List, [], ◌∷◌, length, slice_index_or, IsTrue, if◌then◌else◌}
use Rattle.std.specs.List.{All, Contains}
use Rattle.statement.specs.declared.lines.Line.{Line}
use Rattle.statement.specs.declared.lines.Line.TheVariants.{Pin}
use Rattle.statement.specs.declared.lines.Fault.{Fault}
use Rattle.statement.specs.Netlists.{Definition, Netlist, gates}
use Rattle.netlist.specs.Netlist.{IsGateAt, Reads}
use Rattle.refutation.specs.declared.pairs.Pairs.{Pairs}
use Rattle.refutation.specs.declared.steps.Literal.{Literal}
use Rattle.refutation_check.specs.declared.sets.Change.{Change}
use Rattle.refutation.specs.Pairs.{Pair, has, meet, only_pair}
use Rattle.refutation.specs.Refutations.{Told, told_of, narrowed, IsAllowed, IsBlocked, IsKept, IsKeeping, IsWithin}
use Rattle.refutation_check.specs.inner.Trails.{Trailed}

-- the literal that the signal has the pair
abbrev pub exactly : ℕ → Pair → Literal
exactly x p = record { signal = x; pairs = only_pair p }

-- the pairs of the signal that the gate keeps
abbrev pub AreKept : Netlist → Fault → Told → ℕ → ℕ → Pairs → Type 0
AreKept n f told z x set = (p : Pair) → IsTrue (has set p) ↔ (IsTrue (has (told_of told x) p) × ¬ IsBlocked n f (narrowed told (exactly x p)) z)

-- what gates allow of what signals might have they may have still
abbrev pub Keeps : Netlist → Fault → Told → Told → Type 0
Keeps n f told left = (some : Told) → IsWithin some told → IsAllowed n f some → IsWithin some left

-- the signal was changed at the place of the trail, or later
abbrev pub IsTouched : Trailed → ℕ → ℕ → Type 0
IsTouched t from x = (c : Change) × (k : ℕ) × (from ≤ k) × (k < length t.trail) × (slice_index_or t.trail k c ≡ c) × (c.signal ≡ x)

-- each of them was
abbrev pub AreTouched : Trailed → ℕ → List ℕ → Type 0
AreTouched t from list = All (IsTouched t from) list

-- the gate of z makes the signal, or reads it
abbrev pub IsBeside : Netlist → ℕ → ℕ → Type 0
IsBeside n z x = (x ≡ z) ⊎ Reads n z x

-- a signal beside the gate was
abbrev pub IsGateTouched : Netlist → Trailed → ℕ → ℕ → Type 0
IsGateTouched n t from z = (x : ℕ) × IsBeside n z x × IsTouched t from x

-- the gate of z keeps each pair of its signals
abbrev pub IsKeepingAt : Netlist → Fault → Told → ℕ → Type 0
IsKeepingAt n f told z = (d : Definition) → Contains (gates n) d → d.id ≡ z → IsKeeping n f told d

-- a gate that wasn't touched since keeps each pair, and a signal that wasn't has one
pub record IsCalm (n : Netlist) (f : Fault) (t : Trailed) (from : ℕ) : Type 0 where
  pub gates : (z : ℕ) → ¬ IsGateTouched n t from z → IsKeepingAt n f t.told z
  pub some : (x : ℕ) → x < length t.told → ¬ IsTouched t from x → (p : Pair) × IsTrue (has (told_of t.told x) p)

-- how many pairs signals may have
abbrev pub bit : Bool → ℕ
bit b = if b then 1 else 0

abbrev pub pair_count : Pairs → ℕ
pair_count s = (bit s.zero + bit s.rises) + (bit s.falls + bit s.one)

abbrev pub pair_counts : Told → ℕ
pair_counts [] = 0
pair_counts (s ∷ told) = pair_count s + pair_counts told

-- each change takes a pair
abbrev pub room : Trailed → ℕ
room t = pair_counts t.told + length t.trail

-- the signal may have these alone, of those that it might; and if it had no others, nothing is changed
pub record IsRestricted (old : Trailed) (x : ℕ) (set : Pairs) (new : Trailed) : Type 0 where
  pub told : new.told ≡ narrowed old.told (record { signal = x; pairs = set })
  pub room : room new ≤ room old
  pub quiet : ¬ IsTouched new (length old.trail) x → (new ≡ old) × (meet (told_of old.told x) set ≡ told_of old.told x)

-- what gates allow is left
pub record Narrows (n : Netlist) (f : Fault) (old new : Trailed) : Type 0 where
  pub within : IsWithin new.told old.told
  pub keeps : Keeps n f old.told new.told
  pub room : room new ≤ room old

-- of the signal the pairs that the gate of z keeps
pub record IsLookedAt (n : Netlist) (f : Fault) (old : Trailed) (z x : ℕ) (new : Trailed) : Type 0 where
  pub narrows : Narrows n f old new
  pub quiet : ¬ IsTouched new (length old.trail) x → (new ≡ old) × IsKept n f old.told z x

-- of each of the pins
pub record ArePinsLookedAt (n : Netlist) (f : Fault) (old : Trailed) (z : ℕ) (pins : List ℕ) (new : Trailed) : Type 0 where
  pub narrows : Narrows n f old new
  pub quiet : ¬ IsGateTouched n new (length old.trail) z → (new ≡ old) × All (IsKept n f old.told z) pins

-- of all signals beside the gate of z
pub record IsLooked (n : Netlist) (f : Fault) (old : Trailed) (z : ℕ) (new : Trailed) : Type 0 where
  pub narrows : Narrows n f old new
  pub quiet : ¬ IsGateTouched n new (length old.trail) z → IsKeepingAt n f new.told z

-- narrowed, and of these gates all signals beside them
pub record AreLooked (n : Netlist) (f : Fault) (old : Trailed) (these : ℕ → Type 0) (new : Trailed) : Type 0 where
  pub narrows : Narrows n f old new
  pub quiet : (z : ℕ) → these z → ¬ IsGateTouched n new (length old.trail) z → IsKeepingAt n f new.told z

-- of the gate of which the line is a pin
abbrev pub IsReaderLooked : Netlist → Fault → Trailed → Line → Trailed → Type 0
IsReaderLooked n f old line new = AreLooked n f old (λ z. IsGateAt n z × ((k : ℕ) × (line ≡ Pin z k))) new

-- of the gate of the signal
abbrev pub IsMakerLooked : Netlist → Fault → Trailed → ℕ → Trailed → Type 0
IsMakerLooked n f old x new = AreLooked n f old (λ z. IsGateAt n z × (z ≡ x)) new

-- of the gates that read it
abbrev pub AreReadersLooked : Netlist → Fault → Trailed → ℕ → Trailed → Type 0
AreReadersLooked n f old x new = AreLooked n f old (λ z. Reads n z x) new

-- of all of them
abbrev pub IsLookedAround : Netlist → Fault → Trailed → ℕ → Trailed → Type 0
IsLookedAround n f old x new = AreLooked n f old (λ z. IsGateAt n z × IsBeside n z x) new × ((p : Pair) × IsTrue (has (told_of old.told x) p))

-- these are the pins of the gate of z
abbrev pub ArePinsOf : Netlist → ℕ → List ℕ → Type 0
ArePinsOf n z pins = (d : Definition) × Contains (gates n) d × (d.id ≡ z) × (pins ≡ d.pins)
