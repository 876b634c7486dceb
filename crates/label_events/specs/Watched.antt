-- What one pin of a gate tells of the gate, while others turn (private to this crate).
use Rattle.std.specs.Prelude.{◌≡◌, ◌⊎◌, Bool, true, false, List, map}
use Rattle.std.specs.List.{AllZip, Contains, list_any}
use Rattle.statement.specs.declared.kinds.Kind.{Kind}
use Rattle.statement.specs.declared.kinds.Kind.TheVariants.{And, Nand, Or, Nor, Xor, Xnor}
use Rattle.statement.specs.declared.kinds.Tri.{Tri}
use Rattle.tri.specs.declared.labels.Label.{Label}
use Rattle.tri.specs.Gates.{gate_tri}
use Rattle.tri.specs.Labels.{is_known_as}

-- the gate makes the same whatever other pins have
abbrev pub controls : Kind → Tri → Bool
controls And v = is_known_as false v
controls Nand v = is_known_as false v
controls Or v = is_known_as true v
controls Nor v = is_known_as true v
controls _ v = false

-- the bit that it makes then
abbrev pub controlled : Kind → Bool
controlled Nand = true
controlled Or = true
controlled _ = false

-- an X is X to it at whichever pin
abbrev pub is_joint : Kind → Bool
is_joint And = true
is_joint Nand = true
is_joint Or = true
is_joint Nor = true
is_joint Xor = true
is_joint Xnor = true
is_joint _ = false

-- at each place the same, or the one value and then the other
abbrev pub AreTurned : {A : Type 0} → A → A → List A → List A → Type 0
AreTurned a b ps qs = AllZip (λ p q. (p ≡ q) ⊎ ((p ≡ a) × (q ≡ b))) ps qs

-- where one pin keeps its value, the gate makes the same if others turn
abbrev pub Hides : Kind → Tri → Tri → Tri → Type 0
Hides kind cover a b = (ps qs : List Tri) → AreTurned a b ps qs → Contains ps cover → Contains qs cover → gate_tri kind qs ≡ gate_tri kind ps

-- what the label of a gate follows from is the same
pub record HaveSameGateLabel (kind : Kind) (ps qs : List Label) : Type 0 where
  pub good : gate_tri kind (map (λ (l : Label). l.good) qs) ≡ gate_tri kind (map (λ (l : Label). l.good) ps)
  pub faulty : gate_tri kind (map (λ (l : Label). l.faulty) qs) ≡ gate_tri kind (map (λ (l : Label). l.faulty) ps)
  pub may_differ : list_any (λ (l : Label). l.may_differ) qs ≡ list_any (λ (l : Label). l.may_differ) ps

abbrev pub HidesLabel : Kind → Label → Label → Label → Type 0
HidesLabel kind cover a b = (ps qs : List Label) → AreTurned a b ps qs → Contains ps cover → Contains qs cover → HaveSameGateLabel kind ps qs
