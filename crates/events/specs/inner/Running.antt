-- How values settle anew, gate by gate.
use Rattle.std.specs.Prelude.{ℕ, ◌+◌, ◌≡◌, ◌≢◌, ◌<◌, ◌≤◌, ◌⊎◌, ◌||◌, Bool, List, [], ◌∷◌, ◌++◌, length, slice_index, slice_set, IsTrue, IsFalse}
use Rattle.std.specs.List.{All, Contains, list_any}
use Rattle.statement.specs.declared.lines.Line.{Line}
use Rattle.statement.specs.declared.lines.Line.TheVariants.{Stem}
use Rattle.statement.specs.Netlists.{Definition, Netlist, gates, signals, readers_of}
use Rattle.statement.specs.Values.{Rule, Settles}
use Rattle.netlist.specs.Settled.{at}
use Rattle.events.specs.declared.trails.Change.{Change}
use Rattle.events.specs.Agendas.{marked, AreClear}
use Rattle.events.specs.inner.Placing.{waiting, is_pin_at, AreTables}
use Rattle.events.specs.Trails.{AreChanges}
use Rattle.events.specs.Waiting.{SettlesBut, IsDrivenTo, given}

-- the value is what the gate of this signal makes
abbrev pub IsMade : {V : Type 0} → Rule V → Netlist → ℕ → List V → V → Type 0
IsMade {V} rule n id values v = (g : Definition) (d : V) → Contains (gates n) g → g.id ≡ id → v ≡ given rule (at values d) g

-- the gate makes the same of the new values as of the old ones
abbrev pub MakesSame : {V : Type 0} → Rule V → Definition → List V → List V → Type 0
MakesSame {V} rule g old new = (d : V) → given rule (at new d) g ≡ given rule (at old d) g

-- the gates that have pins among these lines are marked too, but for some that make the same of the new values as of the old ones
pub record CallsTurned {V : Type 0} (rule : Rule V) (n : Netlist) (lines : List Line) (places : List ℕ) (old new : List V) (marks marks' : List Bool) : Type 0 where
  pub size : length marks' ≡ length marks
  pub kept : (q : ℕ) → IsTrue (marked marks q) → IsTrue (marked marks' q)
  pub only : (q : ℕ) → q < length marks → IsTrue (marked marks' q) → IsTrue (marked marks q || list_any (is_pin_at places q) lines)
  pub called : (g : Definition) → Contains (gates n) g → IsTrue (list_any (is_pin_at places (slice_index places g.id)) lines)
      → IsTrue (marked marks' (slice_index places g.id)) ⊎ MakesSame rule g old new

-- The gate is evaluated, and each gate that reads it waits, or makes what it made.
pub record IsTurn {V : Type 0} (rule : Rule V) (n : Netlist) (g : Definition) (a b : ℕ → V) (before after : ℕ → Bool) : Type 0 where
  pub value : b g.id ≡ given rule a g
  pub others : (x : ℕ) → x ≢ g.id → b x ≡ a x
  pub waiting : (x : ℕ) → x < length (signals n) → x ≢ g.id → IsFalse (after x) → IsFalse (before x)
  pub readers : (d : Definition) → Contains (gates n) d → Contains d.pins g.id → IsFalse (after d.id) → given rule b d ≡ given rule a d

-- the same of an input or a cell that takes a value
pub record IsSourceTurn {V : Type 0} (rule : Rule V) (n : Netlist) (x : ℕ) (v : V) (a b : ℕ → V) (before after : ℕ → Bool) : Type 0 where
  pub source : (d : Definition) → Contains (gates n) d → d.id ≢ x
  pub value : b x ≡ v
  pub others : (y : ℕ) → y ≢ x → b y ≡ a y
  pub waiting : (y : ℕ) → y < length (signals n) → y ≢ x → IsFalse (after y) → IsFalse (before y)
  pub readers : (d : Definition) → Contains (gates n) d → Contains d.pins x → IsFalse (after d.id) → given rule b d ≡ given rule a d

-- a signal has the value that it had
pub record StaysSame {V : Type 0} (id : ℕ) (v : V) (old new : List V) (marks marks' : List Bool) (trail trail' : List (Change V)) : Type 0 where
  pub same : (d : V) → v ≡ at old d id
  pub values : new ≡ old
  pub marks_are : marks' ≡ marks
  pub trail_is : trail' ≡ trail

-- a signal has another value: its old one is on the trail, and its readers are called that don't make the same
pub record Turns {V : Type 0} (rule : Rule V) (n : Netlist) (places : List ℕ) (id : ℕ) (v : V) (old new : List V) (marks marks' : List Bool) (trail trail' : List (Change V)) : Type 0 where
  pub change : Change V
  pub signal : change.signal ≡ id
  pub before : (d : V) → change.before ≡ at old d id
  pub differs : v ≢ change.before
  pub values : new ≡ slice_set old id v
  pub calls : CallsTurned rule n (readers_of n id) places old new marks marks'
  pub trail_is : trail' ≡ trail ++ change ∷ []

-- a signal takes a value
pub record Takes {V : Type 0} (rule : Rule V) (n : Netlist) (places : List ℕ) (id : ℕ) (v : V) (old new : List V) (marks marks' : List Bool) (trail trail' : List (Change V)) : Type 0 where
  pub does : StaysSame id v old new marks marks' trail trail' ⊎ Turns rule n places id v old new marks marks' trail trail'

-- values that settled but for some places, after what stands before a place is evaluated
pub record AreUnderway {V : Type 0} (rule : Rule V) (n : Netlist) (places : List ℕ) (old new : List V) (marks marks' : List Bool) (trail trail' : List (Change V)) (below : ℕ) : Type 0 where
  pub size : length marks' ≡ length marks
  pub bounded : below ≤ length marks
  pub later : (q : ℕ) → IsTrue (marked marks' q) → below ≤ q
  pub settles : (inputs state : List V) (d : V) → SettlesBut (waiting marks places) rule n inputs state (at old d) → SettlesBut (waiting marks' places) rule n inputs state (at new d)
  pub changes : List (Change V)
  pub trail_is : trail' ≡ trail ++ changes
  pub are_changes : AreChanges old new changes
  pub placed : (c : Change V) → Contains changes c → slice_index places c.signal < below

-- Values that settled but for the marked places have settled, and what changed stands on the trail.
pub record Resettles {V : Type 0} (rule : Rule V) (n : Netlist) (places : List ℕ) (old new : List V) (marks : List Bool) (trail trail' : List (Change V)) : Type 0 where
  pub settles : (inputs state : List V) (d : V) → SettlesBut (waiting marks places) rule n inputs state (at old d) → Settles rule n inputs state (at new d)
  pub changes : List (Change V)
  pub trail_is : trail' ≡ trail ++ changes
  pub are_changes : AreChanges old new changes
  pub placed : (c : Change V) → Contains changes c → slice_index places c.signal < length marks

-- An input or a cell has a value that what is driven makes, or a gate is marked: what settled but for it, the marked places and some others
-- settles but for what is marked then and those others.
pub record PutsSource {V : Type 0} (rule : Rule V) (n : Netlist) (places : List ℕ) (id : ℕ) (v : V) (old new : List V) (marks marks' : List Bool) (trail trail' : List (Change V)) : Type 0 where
  pub size : length marks' ≡ length marks
  pub settles : (inputs state : List V) (d : V) (before after : ℕ → Bool) → IsDrivenTo rule n inputs state id v
      → ((x : ℕ) → IsFalse (after x) → IsFalse (waiting marks' places x))
      → ((x : ℕ) → x ≢ id → IsFalse (waiting marks places x) → IsFalse (after x) → IsFalse (before x))
      → SettlesBut before rule n inputs state (at old d) → SettlesBut after rule n inputs state (at new d)
  pub changes : List (Change V)
  pub trail_is : trail' ≡ trail ++ changes
  pub are_changes : AreChanges old new changes
  pub own : (c : Change V) → Contains changes c → c.signal ≡ id
  pub behind : (c : Change V) → Contains changes c → slice_index places c.signal ≡ length marks

-- the same of the first m of these signals, one after another, each driven with the value that it had
pub record Touches {V : Type 0} (rule : Rule V) (n : Netlist) (places ids : List ℕ) (old new : List V) (marks marks' : List Bool) (trail trail' : List (Change V)) (m : ℕ) : Type 0 where
  pub size : length marks' ≡ length marks
  pub settles : (inputs state : List V) (d : V) (before after : ℕ → Bool)
      → ((k : ℕ) → k < m → IsDrivenTo rule n inputs state (slice_index ids k) (rule.line (Stem (slice_index ids k)) (at old d (slice_index ids k))))
      → ((x : ℕ) → IsFalse (after x) → IsFalse (waiting marks' places x))
      → ((x : ℕ) → ((k : ℕ) → k < m → x ≢ slice_index ids k) → IsFalse (waiting marks places x) → IsFalse (after x) → IsFalse (before x))
      → SettlesBut before rule n inputs state (at old d) → SettlesBut after rule n inputs state (at new d)
  pub changes : List (Change V)
  pub trail_is : trail' ≡ trail ++ changes
  pub are_changes : AreChanges old new changes
  pub own : (c : Change V) → Contains changes c → (k : ℕ) × (k < m) × (c.signal ≡ slice_index ids k)
  pub behind : (c : Change V) → Contains changes c → slice_index places c.signal ≡ length marks

-- what an evaluator has between two calls
pub record AreReady {V : Type 0} (n : Netlist) (order places : List ℕ) (fans : List (List ℕ)) (marks : List Bool) (values : List V) (trail : List (Change V)) (capacity : ℕ) : Type 0 where
  pub tables : AreTables n order places fans
  pub marks_size : length marks ≡ length order
  pub clear : AreClear marks
  pub size : length values ≡ length (signals n)
  pub within : All (λ (c : Change V). c.signal < length values) trail
  pub room : length (signals n) + 1 ≤ capacity
