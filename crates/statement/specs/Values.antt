-- What signals have: bits and the three values, what a gate gives, and how values settle, where one line may be stuck.
use Rattle.std.specs.Prelude.{Bool, true, false, not, ◌&&◌, List, [], ◌∷◌, ◌||◌, cond, ℕ, ◌+◌, map, ◌≡◌, ◌==◌, Option, Some, None}
use Rattle.std.specs.List.{All, AllZip, flat_map}
use Rattle.statement.specs.declared.kinds.Kind.{Kind}
use Rattle.statement.specs.declared.kinds.Kind.TheVariants.{And, Nand, Or, Nor, Xor, Xnor, Not, Buff, Dff, Const0, Const1}
use Rattle.statement.specs.declared.kinds.Tri.{Tri}
use Rattle.statement.specs.declared.kinds.Tri.TheVariants.{Zero, One, X}
use Rattle.statement.specs.declared.lines.Fault.{Fault}
use Rattle.statement.specs.declared.lines.Line.{Line}
use Rattle.statement.specs.declared.lines.Line.TheVariants.{Pin, Stem, Out}
use Rattle.statement.specs.Netlists.{Definition, Netlist, cells, gates}

-- the value of a bit that is known
abbrev pub known : Bool → Tri
known false = Zero
known true = One

-- the bit may stand where the value does: X allows both
abbrev pub allows : Tri → Bool → Bool
allows Zero b = not b
allows One b = b
allows X b = true

abbrev pub conjunction : List Bool → Bool
conjunction [] = true
conjunction (b ∷ bs) = b && conjunction bs

abbrev pub disjunction : List Bool → Bool
disjunction [] = false
disjunction (b ∷ bs) = b || disjunction bs

-- whether an odd number of them is 1
abbrev pub parity : List Bool → Bool
parity [] = false
parity (b ∷ bs) = cond b (not (parity bs)) (parity bs)

abbrev pub only : List Bool → Bool
only [] = false
only (b ∷ bs) = b

abbrev pub gate_bit : Kind → List Bool → Bool
gate_bit And bits = conjunction bits
gate_bit Nand bits = not (conjunction bits)
gate_bit Or bits = disjunction bits
gate_bit Nor bits = not (disjunction bits)
gate_bit Xor bits = parity bits
gate_bit Xnor bits = not (parity bits)
gate_bit Not bits = not (only bits)
gate_bit Buff bits = only bits
gate_bit Dff bits = only bits
gate_bit Const0 bits = false
gate_bit Const1 bits = true

-- How values settle: what a line makes of the value that comes onto it (a stuck line makes the stuck value), and what a gate makes of those on its pins.
pub record Rule (V : Type 0) : Type 0 where
  pub line : Line → V → V
  pub gate : Definition → List V → V

-- the values on the pins of z from place k on, where these come onto them
abbrev pub on_pins : {V : Type 0} → Rule V → ℕ → ℕ → List V → List V
on_pins rule z k [] = []
on_pins rule z k (v ∷ vs) = rule.line (Pin z k) v ∷ on_pins rule z (k + 1) vs

-- the values on the pins of a definition
abbrev pub pins_of : {V : Type 0} → Rule V → (ℕ → V) → Definition → List V
pins_of rule a d = on_pins rule d.id 0 (map a d.pins)

-- The assignment settles: each input and cell has what its stem makes of what is driven there, each gate what its stem makes of what it makes of its pins.
abbrev pub Settles : {V : Type 0} → Rule V → Netlist → List V → List V → (ℕ → V) → Type 0
Settles rule n inputs state a =
    AllZip (λ x v. a x ≡ rule.line (Stem x) v) n.inputs inputs
    × AllZip (λ (d : Definition) v. a d.id ≡ rule.line (Stem d.id) v) (cells n) state
    × All (λ (d : Definition). a d.id ≡ rule.line (Stem d.id) (rule.gate d (pins_of rule a d))) (gates n)

-- the values at the output pins, and those at the cells' pins, of which each cell has one: the next state
abbrev pub outs : {V : Type 0} → Rule V → Netlist → (ℕ → V) → List V
outs rule n a = map (λ x. rule.line (Out x) (a x)) n.outputs

abbrev pub next : {V : Type 0} → Rule V → Netlist → (ℕ → V) → List V
next rule n a = flat_map (pins_of rule a) (cells n)

abbrev pub is_line : Line → Line → Bool
is_line (Stem x) (Stem y) = x == y
is_line (Pin x j) (Pin y k) = (x == y) && (j == k)
is_line (Out x) (Out y) = x == y
is_line _ _ = false

-- the value on a line, where one line may be stuck at what stands for a bit
abbrev pub stuck : {V : Type 0} → (Bool → V) → Option Fault → Line → V → V
stuck known None line v = v
stuck known (Some f) line v = cond (is_line f.line line) (known f.value) v

-- values with what stands for a bit, and a gate table
pub record Table (V : Type 0) : Type 0 where
  pub known : Bool → V
  pub gate : Kind → List V → V

-- the rule of a table, where one line may be stuck
abbrev pub with_fault : {V : Type 0} → Table V → Option Fault → Rule V
with_fault table f = record { line = stuck table.known f; gate = λ d. table.gate d.kind }

abbrev pub bit_table : Table Bool
bit_table = record { known = λ b. b; gate = gate_bit }

-- bits, where one line may be stuck
abbrev pub bits : Option Fault → Rule Bool
bits = with_fault bit_table
