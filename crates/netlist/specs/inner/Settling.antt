-- How far values have settled, as the gates are evaluated in order (private to this crate).
use Rattle.std.specs.Prelude.{ℕ, ◌≡◌, ◌<◌, List, length, slice_index}
use Rattle.std.specs.List.{AllZip, Contains}
use Rattle.statement.specs.declared.lines.Line.TheVariants.{Stem}
use Rattle.statement.specs.Netlists.{Definition, Netlist, cells, gates, signals}
use Rattle.statement.specs.Values.{Rule, pins_of}
use Rattle.netlist.specs.Settled.{at}

-- sources have settled, and the first m gates of the order
pub record SettlesUpTo {V : Type 0} (rule : Rule V) (n : Netlist) (order : List ℕ) (inputs state values : List V) (m : ℕ) (d : V) : Type 0 where
  pub size : length values ≡ length (signals n)
  pub inputs_driven : AllZip (λ x v. at values d x ≡ rule.line (Stem x) v) n.inputs inputs
  pub cells_driven : AllZip (λ (c : Definition) v. at values d c.id ≡ rule.line (Stem c.id) v) (cells n) state
  pub done : (k : ℕ) → k < m → (g : Definition) → Contains (gates n) g → g.id ≡ slice_index order k
      → at values d g.id ≡ rule.line (Stem g.id) (rule.gate g (pins_of rule (at values d) g))

pub record AllSettleUpTo {V : Type 0} (rule : Rule V) (n : Netlist) (order : List ℕ) (inputs state values : List V) (m : ℕ) : Type 0 where
  pub size : length values ≡ length (signals n)
  pub each : (d : V) → SettlesUpTo rule n order inputs state values m d
