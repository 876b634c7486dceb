-- Where a line enters: the equation of one signal, or what an observed point reads.
use Rattle.std.specs.Prelude.{ℕ, ◌≡◌, ◌≢◌, ◌⊎◌, Option, IsTrue, IsFalse}
use Rattle.std.specs.List.{All, Contains}
use Rattle.statement.specs.declared.lines.Line.{Line}
use Rattle.statement.specs.declared.lines.Line.TheVariants.{Stem, Pin, Out}
use Rattle.statement.specs.declared.lines.Fault.{Fault}
use Rattle.statement.specs.Netlists.{Definition, Netlist, cells, gates}
use Rattle.statement.specs.Values.{is_line}
use Rattle.tri.specs.declared.labels.Label.{Label}
use Rattle.tri.specs.Labels.{on_line}
use Rattle.label_events.specs.declared.line_places.LinePlace.{LinePlace}
use Rattle.label_events.specs.declared.line_places.LinePlace.TheVariants.{Signal, Point}

-- neither the stem of the signal nor a pin of its gate
abbrev pub IsLineOfOthers : Netlist → Line → ℕ → Type 0
IsLineOfOthers n line x = IsFalse (is_line line (Stem x)) × ((d : Definition) → Contains (gates n) d → d.id ≡ x → (k : ℕ) → IsFalse (is_line line (Pin x k)))

-- a stem or a pin of no other signal, and read by no observed point
pub record IsInner (n : Netlist) (line : Line) (x : ℕ) : Type 0 where
  pub others : (y : ℕ) → y ≢ x → IsLineOfOthers n line y
  pub outputs : (y : ℕ) → IsFalse (is_line line (Out y))
  pub pins : (d : Definition) → Contains (cells n) d → IsFalse (is_line line (Pin d.id 0))

-- a stem or a pin of no signal; by it an observed point reads this signal
pub record IsPointLine (n : Netlist) (line : Line) (x : ℕ) : Type 0 where
  pub off : (y : ℕ) → IsLineOfOthers n line y
  pub outputs : (y : ℕ) → IsTrue (is_line line (Out y)) → y ≡ x
  pub pins : (d : Definition) → Contains (cells n) d → IsTrue (is_line line (Pin d.id 0)) → All (λ y. y ≡ x) d.pins
  pub point : (Contains n.outputs x × IsTrue (is_line line (Out x))) ⊎ ((d : Definition) × Contains (cells n) d × Contains d.pins x × IsTrue (is_line line (Pin d.id 0)))

abbrev pub IsLinePlace : Netlist → Line → LinePlace → Type 0
IsLinePlace n line (Signal x) = IsInner n line x
IsLinePlace n line (Point x) = IsPointLine n line x

-- two faults, or one and none, do the same on every line but this one
abbrev pub AgreeOnOtherLines : Line → Option Fault → Option Fault → Type 0
AgreeOnOtherLines line f g = (other : Line) (l : Label) → IsFalse (is_line line other) → on_line f other l ≡ on_line g other l
