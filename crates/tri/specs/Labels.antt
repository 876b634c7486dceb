-- What decisions on signals, and inputs that are held, tell of each signal: its value without the fault and with it, and whether the
-- two may differ.
-- (The composite values of the D-calculus, Roth 1966; decisions on inputs as in PODEM, Goel 1981.)
use Rattle.std.specs.Prelude.{ℕ, ◌≡◌, ◌&&◌, ◌⊎◌, ⊤, Bool, true, false, not, List, [], ◌∷◌, map, Option, Some, None, if◌then◌else◌, IsTrue, IsFalse, slice_index_or}
use Rattle.std.specs.List.{All, Contains, list_any}
use Rattle.statement.specs.declared.kinds.Tri.{Tri}
use Rattle.statement.specs.declared.kinds.Tri.TheVariants.{Zero, One, X}
use Rattle.statement.specs.declared.lines.Line.{Line}
use Rattle.statement.specs.declared.lines.Fault.{Fault}
use Rattle.statement.specs.Netlists.{Definition, Netlist, cells, signals}
use Rattle.statement.specs.Patterns.{Holds}
use Rattle.statement.specs.Values.{Rule, Settles, is_line, bits, outs, next, known, allows}
use Rattle.tri.specs.declared.labels.Label.{Label}
use Rattle.netlist.specs.ThreeValues.{is_zero, is_one}
use Rattle.tri.specs.Known.{allows_tri}
use Rattle.tri.specs.Gates.{gate_tri}

-- the decided bits of some signals
abbrev pub Decisions : Type 0
Decisions = ℕ → Option Bool

abbrev pub is_known_as : Bool → Tri → Bool
is_known_as true v = is_one v
is_known_as false v = is_zero v

abbrev pub are_known_and_equal : Tri → Tri → Bool
are_known_and_equal Zero v = is_zero v
are_known_and_equal One v = is_one v
are_known_and_equal X v = false

-- On the fault's line the faulty value is the stuck bit, and it may differ unless the good value is that bit.
abbrev pub on_line : Option Fault → Line → Label → Label
on_line None line l = l
on_line (Some f) line l =
    if is_line f.line line then record { own = l.own; good = l.good; faulty = known f.value; may_differ = not (is_known_as f.value l.good) } else l

-- the value without the fault: the decided bit, else what the pins tell
abbrev pub good_of : Option Bool → Tri → Tri
good_of None own = own
good_of (Some b) own = known b

-- The label of a signal whose stem isn't stuck. Where no pin may differ, the signal doesn't; else it may unless both values are known and equal.
abbrev pub label_of : Option Bool → Tri → Tri → Bool → Label
label_of decision own faulty differs = record {
  own = own;
  good = good_of decision own;
  faulty = if differs then faulty else good_of decision own;
  may_differ = differs && not (are_known_and_equal (good_of decision own) faulty);
}

-- labels under a fault, or none, and decisions
abbrev pub labels : Option Fault → Decisions → Rule Label
labels f path = record {
  line = on_line f;
  gate = λ d pins. label_of (path d.id)
      (gate_tri d.kind (map (λ (l : Label). l.good) pins))
      (gate_tri d.kind (map (λ (l : Label). l.faulty) pins))
      (list_any (λ (l : Label). l.may_differ) pins);
}

-- of an input or a cell onto which this value is driven
abbrev pub source_label : Decisions → ℕ → Tri → Label
source_label path x own = label_of (path x) own X false

-- the bit at which an input is held, else X
abbrev pub held_value : Option Bool → Tri
held_value None = X
held_value (Some b) = known b

-- What is driven onto the inputs and the cells. (The place of an input among the inputs is its number.)
abbrev pub input_labels : Decisions → Netlist → Holds → List Label
input_labels path n holds = map (λ x. source_label path x (held_value (slice_index_or holds x None))) n.inputs

abbrev pub cell_labels : Decisions → Netlist → List Label
cell_labels path n = map (λ (d : Definition). source_label path d.id X) (cells n)

-- the labels of all signals under a fault, or none, decisions and held inputs
abbrev pub AreLabels : Option Fault → Decisions → Netlist → Holds → (ℕ → Label) → Type 0
AreLabels f path n holds l = Settles (labels f path) n (input_labels path n holds) (cell_labels path n) l

-- a decided bit is the other one than what the pins tell
abbrev pub IsContradicted : Decisions → Netlist → (ℕ → Label) → Type 0
IsContradicted path n l = (x : ℕ) × Contains (signals n) x × ((b : Bool) × (path x ≡ Some b) × ((l x).own ≡ known (not b)))

-- no observed point may differ
pub record IsUnobserved (f : Fault) (path : Decisions) (n : Netlist) (l : ℕ → Label) : Type 0 where
  pub outputs : All (λ (m : Label). IsFalse m.may_differ) (outs (labels (Some f) path) n l)
  pub cells : All (λ (m : Label). IsFalse m.may_differ) (next (labels (Some f) path) n l)

abbrev pub IsClosedAt : Fault → Decisions → Netlist → (ℕ → Label) → Type 0
IsClosedAt f path n l = IsContradicted path n l ⊎ IsUnobserved f path n l

-- what is known of the first one stays so, and if it may not differ, neither may the other
pub record AllowsLabel (l m : Label) : Type 0 where
  pub own : IsTrue (allows_tri l.own m.own)
  pub good : IsTrue (allows_tri l.good m.good)
  pub faulty : IsTrue (allows_tri l.faulty m.faulty)
  pub may_differ : IsFalse l.may_differ → IsFalse m.may_differ

-- ---- labels and patterns

-- each decided signal has its bit
abbrev pub Follows : Decisions → Netlist → (ℕ → Bool) → Type 0
Follows path n good = (x : ℕ) (b : Bool) → Contains (signals n) x → path x ≡ Some b → good x ≡ b

-- a pattern under which each decided signal has its bit, without the fault
pub record MeetsDecisions (path : Decisions) (n : Netlist) (inputs state : List Bool) : Type 0 where
  pub good : ℕ → Bool
  pub settles : Settles (bits None) n inputs state good
  pub follows : Follows path n good

-- the label allows bit a without the fault and bit b with it
pub record IsAbove (l : Label) (a b : Bool) : Type 0 where
  pub own : IsTrue (allows l.own a)
  pub good : IsTrue (allows l.good a)
  pub faulty : IsTrue (allows l.faulty b)
  pub same : IsFalse l.may_differ → a ≡ b

-- so at each place of three lists of one length
abbrev pub AreAbove : List Label → List Bool → List Bool → Type 0
AreAbove [] [] [] = ⊤
AreAbove (l ∷ ls) (g ∷ goods) (b ∷ faults) = IsAbove l g b × AreAbove ls goods faults
AreAbove _ _ _ = ⊥
