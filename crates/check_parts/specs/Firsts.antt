-- Where each fault's first evidence stands: a row of places for each signal.
use Rattle.std.specs.Prelude.{ℕ, zero, suc, ◌≡◌, ◌≢◌, ◌+◌, ◌*◌, ◌<◌, ◌≤◌, Bool, true, false, List, [], length, Option, Some, None, slice_index, slice_set}
use Rattle.std.specs.List.{Contains, slice_get}
use Rattle.std.specs.Option.{option_map_or}
use Rattle.statement.specs.declared.lines.Line.{Line}
use Rattle.statement.specs.declared.lines.Line.TheVariants.{Stem, Pin, Out}
use Rattle.statement.specs.declared.lines.Fault.{Fault}
use Rattle.statement.specs.Netlists.{Definition, Netlist}
use Rattle.netlist.specs.Netlist.{definition_of, signal_count}
use Rattle.netlist.specs.Lines.{signal_of}
use Rattle.statement.specs.Faults.{universe_of}
use Rattle.evidence.specs.declared.kinds.Evidence.{Evidence}
use Rattle.good_files.specs.GoodFiles.{faults_in}
use Rattle.check_parts.specs.declared.firsts.Firsts.{Firsts}

-- the pins of what defines a signal
abbrev pub pins_at : Netlist → ℕ → List ℕ
pins_at n x = option_map_or (λ (d : Definition). d.pins) (definition_of n x) []

-- how long a signal's row is, and where it starts
abbrev pub width : Netlist → ℕ → ℕ
width n x = 4 + 2 * length (pins_at n x)

abbrev pub start : Netlist → ℕ → ℕ
start n zero = 0
start n (suc x) = start n x + width n x

abbrev pub bit_value : Bool → ℕ
bit_value false = 0
bit_value true = 1

-- where a fault stands in the row of the signal that it is named by
abbrev pub offset : Line → Bool → ℕ
offset (Stem x) v = bit_value v
offset (Out x) v = 2 + bit_value v
offset (Pin z k) v = 4 + 2 * k + bit_value v

abbrev pub spot : Netlist → Fault → ℕ
spot n f = start n (signal_of f.line) + offset f.line f.value

pub record AreStarts (n : Netlist) (starts : List ℕ) : Type 0 where
  pub size : length starts ≡ signal_count n + 1
  pub each : (x : ℕ) → x ≤ signal_count n → slice_index starts x ≡ start n x

-- the fault's first evidence among the first k stands at this place, if there is some
pub record IsFirstAt (evidence : List (Fault × Evidence)) (k : ℕ) (f : Fault) (place : ℕ) : Type 0 where
  pub within : place < k
  pub here : slice_get (faults_in evidence) place ≡ Some f
  pub first : (j : ℕ) → j < place → slice_get (faults_in evidence) j ≢ Some f

abbrev pub IsFirst : List (Fault × Evidence) → ℕ → Fault → Option ℕ → Type 0
IsFirst evidence k f None = (j : ℕ) → j < k → slice_get (faults_in evidence) j ≢ Some f
IsFirst evidence k f (Some place) = IsFirstAt evidence k f place

-- what stands at each fault's place
pub record AreFirst (n : Netlist) (evidence : List (Fault × Evidence)) (k : ℕ) (places : List (Option ℕ)) : Type 0 where
  pub size : length places ≡ start n (signal_count n)
  pub each : (f : Fault) → Contains (universe_of n) f → (o : Option ℕ) × (slice_get places (spot n f) ≡ Some o) × IsFirst evidence k f o

-- evidence of a fault of the netlist
abbrev pub IsOfFault : Netlist → Fault × Evidence → Type 0
IsOfFault n p = Contains (universe_of n) p.0

-- a place is put down where there was none
pub data IsNoted (old new : List (Option ℕ)) (at k : ℕ) : Type 0 where
  stays : (place : ℕ) → slice_get old at ≡ Some (Some place) → new ≡ old → IsNoted old new at k
  noted : slice_get old at ≡ Some None → new ≡ slice_set old at (Some k) → IsNoted old new at k

-- as they lie in memory
pub record AreFirsts (n : Netlist) (evidence : List (Fault × Evidence)) (t : Firsts) : Type 0 where
  pub starts : AreStarts n t.starts.items
  pub places : AreFirst n evidence (length evidence) t.places.items

-- the starts of the first x rows, and of the next one
pub record ArePartStarts (n : Netlist) (starts : List ℕ) (x next : ℕ) : Type 0 where
  pub size : length starts ≡ x
  pub each : (y : ℕ) → y < x → slice_index starts y ≡ start n y
  pub next_is : next ≡ start n x
