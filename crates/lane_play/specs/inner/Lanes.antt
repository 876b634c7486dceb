-- Three values of 128 machines, side by side in two sets of bits, and how they settle: each machine has its own stuck line.
-- (Parallel fault simulation: Seshu, On an improved diagnosis program, 1965.)
use Rattle.std.specs.Prelude.{ℕ, ◌+◌, Bool, true, false, List, [], ◌∷◌, map, if◌then◌else◌}
use Rattle.statement.specs.declared.kinds.Kind.{Kind}
use Rattle.statement.specs.declared.kinds.Kind.TheVariants.{And, Nand, Or, Nor, Xor, Xnor, Not, Buff, Dff, Const0, Const1}
use Rattle.statement.specs.declared.kinds.Tri.{Tri}
use Rattle.statement.specs.declared.kinds.Tri.TheVariants.{X}
use Rattle.statement.specs.declared.lines.Fault.{Fault}
use Rattle.statement.specs.declared.lines.Line.{Line}
use Rattle.statement.specs.Values.{Rule, is_line, known}
use Rattle.lane_play.specs.declared.packed.Lanes.{Lanes}
use Rattle.lane_play.specs.inner.Bits.{all_bits, bit_in, bits_and, bits_not, bits_or, bits_xor, no_bits, with_bit}

-- the value of machine k
abbrev pub lane : ℕ → Lanes → Tri
lane k v = if bit_in k v.known then known (bit_in k v.value) else X

abbrev pub lanes : ℕ → List Lanes → List Tri
lanes k vs = map (lane k) vs

-- nothing is known of any machine
abbrev pub unknown : Lanes
unknown = record { known = no_bits; value = no_bits }

-- ---- gates

abbrev pub always : Bool → Lanes
always b = record { known = all_bits; value = if b then all_bits else no_bits }

abbrev pub both : Lanes → Lanes → Lanes
both u v = record {
  known = bits_or (bits_and u.known v.known) (bits_or (bits_and u.known (bits_not u.value)) (bits_and v.known (bits_not v.value)));
  value = bits_and u.value v.value;
}

abbrev pub either : Lanes → Lanes → Lanes
either u v = record {
  known = bits_or (bits_and u.known v.known) (bits_or (bits_and u.known u.value) (bits_and v.known v.value));
  value = bits_or u.value v.value;
}

abbrev pub unequal : Lanes → Lanes → Lanes
unequal u v = record { known = bits_and u.known v.known; value = bits_xor u.value v.value }

abbrev pub opposite : Lanes → Lanes
opposite v = record { known = v.known; value = bits_not v.value }

abbrev pub all_of : List Lanes → Lanes
all_of [] = always true
all_of (v ∷ vs) = both v (all_of vs)

abbrev pub some_of : List Lanes → Lanes
some_of [] = always false
some_of (v ∷ vs) = either v (some_of vs)

abbrev pub odd_of : List Lanes → Lanes
odd_of [] = always false
odd_of (v ∷ vs) = unequal v (odd_of vs)

abbrev pub only_of : List Lanes → Lanes
only_of [] = always false
only_of (v ∷ vs) = v

abbrev pub gate_lanes : Kind → List Lanes → Lanes
gate_lanes And vs = all_of vs
gate_lanes Nand vs = opposite (all_of vs)
gate_lanes Or vs = some_of vs
gate_lanes Nor vs = opposite (some_of vs)
gate_lanes Xor vs = odd_of vs
gate_lanes Xnor vs = opposite (odd_of vs)
gate_lanes Not vs = opposite (only_of vs)
gate_lanes Buff vs = only_of vs
gate_lanes Dff vs = only_of vs
gate_lanes Const0 vs = always false
gate_lanes Const1 vs = always true

-- ---- stuck lines

-- the value of machine k becomes a bit
abbrev pub with_lane : ℕ → Bool → Lanes → Lanes
with_lane k b v = record { known = with_bit k true v.known; value = with_bit k b v.value }

-- machine k has the first of these faults, and so on: what the line makes of what comes onto it
abbrev pub forced_from : ℕ → List Fault → Line → Lanes → Lanes
forced_from k [] line v = v
forced_from k (f ∷ fs) line v = forced_from (k + 1) fs line (if is_line f.line line then with_lane k f.value v else v)

-- the rule by which 128 machines settle side by side, each with its own stuck line
abbrev pub lanes_rule : List Fault → Rule Lanes
lanes_rule faults = record { line = forced_from 0 faults; gate = λ d. gate_lanes d.kind }
