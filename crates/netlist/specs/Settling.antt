-- How values settle one by one: inputs and cells take what is driven, and then gates are evaluated one after the other.
use Rattle.std.specs.Prelude.{ℕ, ◌≡◌, ◌≢◌, ◌<◌, List, [], ◌∷◌, length, slice_index, slice_set}
use Rattle.std.specs.List.{AllZip, Contains}
use Rattle.statement.specs.declared.lines.Line.TheVariants.{Stem}
use Rattle.statement.specs.Netlists.{Definition, Netlist, cells, gates}
use Rattle.netlist.specs.Netlist.{IsGateAt}
use Rattle.statement.specs.Values.{Rule, pins_of}
use Rattle.netlist.specs.Settled.{at}

-- the first m of these signals have what is driven onto them, and the others are as before
pub record IsDriven {V : Type 0} (rule : Rule V) (ids : List ℕ) (driven old new : List V) (m : ℕ) : Type 0 where
  pub size : length new ≡ length old
  pub here : (k : ℕ) (d : V) → k < m → at new d (slice_index ids k) ≡ rule.line (Stem (slice_index ids k)) (at driven d k)
  pub others : (x : ℕ) (d : V) → ((k : ℕ) → k < m → x ≢ slice_index ids k) → at new d x ≡ at old d x

-- inputs and cells have what is driven onto them, and each gate what it had
pub record AreSourcesDriven {V : Type 0} (rule : Rule V) (n : Netlist) (inputs state old new : List V) : Type 0 where
  pub size : length new ≡ length old
  pub inputs_driven : (d : V) → AllZip (λ x v. at new d x ≡ rule.line (Stem x) v) n.inputs inputs
  pub cells_driven : (d : V) → AllZip (λ (c : Definition) v. at new d c.id ≡ rule.line (Stem c.id) v) (cells n) state
  pub gates_stay : (x : ℕ) (d : V) → IsGateAt n x → at new d x ≡ at old d x

-- the gate of this signal has its value, and nothing else changed
pub record IsEvaluated {V : Type 0} (rule : Rule V) (n : Netlist) (x : ℕ) (old new : List V) : Type 0 where
  pub size : length new ≡ length old
  pub set : (g : Definition) (d : V) → Contains (gates n) g → g.id ≡ x → new ≡ slice_set old x (rule.line (Stem g.id) (rule.gate g (pins_of rule (at old d) g)))

-- the gates of these signals are evaluated, one after the other
abbrev pub AreEvaluated : {V : Type 0} → Rule V → Netlist → List ℕ → List V → List V → Type 0
AreEvaluated rule n [] old new = new ≡ old
AreEvaluated {V} rule n (x ∷ xs) old new = (between : List V) × IsEvaluated rule n x old between × AreEvaluated rule n xs between new
