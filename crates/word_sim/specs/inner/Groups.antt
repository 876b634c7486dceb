-- What is found of faults by the heads of their regions.
use Rattle.std.specs.Prelude.{ℕ, ◌≡◌, ◌≢◌, ◌<◌, ◌≤◌, ◌^◌, List, [], length, map, slice_index_or, Option, Some, None, IfSome}
use Rattle.std.specs.List.{All, Contains, slice_get}
use Rattle.std.specs.Option.{option_map}
use Rattle.statement.specs.declared.lines.Fault.{Fault}
use Rattle.netlist.specs.Lines.{IsLineOf}
use Rattle.statement.specs.Netlists.{Netlist, signals}
use Rattle.events.specs.declared.trails.Change.{Change}
use Rattle.netlist.specs.Settled.{at}
use Rattle.events.specs.Standing.{SettlesOver, Standing}
use Rattle.regions.specs.declared.fours.Four.{Four}
use Rattle.regions.specs.declared.turned.TurnedWords.{TurnedWords}
use Rattle.regions.specs.Side.{spread}
use Rattle.regions.specs.Turned.{turned_words}
use Rattle.events.specs.Words.{words}
use Rattle.statement.specs.Patterns.{Pattern}
use Rattle.regions.specs.Paths.{IsReach}
use Rattle.word_sim.specs.Hits.{LastDetected}
use Rattle.word_sim.specs.declared.passes.Pass.{Pass}
use Rattle.word_sim.specs.declared.shown.Shown.{Shown}
use Rattle.word_sim.specs.inner.Differences.{shown_of}
use Rattle.word_sim.specs.inner.Packed.{AreGoodFor, IsUsed}
use Rattle.observed_points.specs.Points.{ArePoints, point_of}

-- what is told of a fault, where something is
pub record IsFound (n : Netlist) (patterns : List Pattern) (f : Fault) (found : Option (ℕ × ℕ)) : Type 0 where
  pub detected : LastDetected n patterns f (option_map (λ (w : ℕ × ℕ). (w.0, point_of n w.1)) found)
  pub small : IfSome found (λ w. (w.0 < 64) × (w.1 < 2 ^ 32))

abbrev pub IsToldOf : Netlist → List Pattern → Fault → Option (Option (ℕ × ℕ)) → Type 0
IsToldOf n patterns f told = IfSome told (IsFound n patterns f)

-- the same of each fault of a pass
pub record AreTold (n : Netlist) (p : Pass) (told : List (Option (Option (ℕ × ℕ)))) : Type 0 where
  pub size : length told ≡ length p.faults.now
  pub each : (k : ℕ) (g : ℕ × Fault) → slice_get p.faults.now k ≡ Some g → IsToldOf n p.patterns.now g.1 (slice_index_or told k None)

-- the head that each fault may reach, and the patterns under which it does
pub record AreReaches (n : Netlist) (values : List ℕ) (faults : List (ℕ × Fault)) (reaches : List (Option (ℕ × ℕ))) : Type 0 where
  pub size : length reaches ≡ length faults
  pub each : (k : ℕ) (g : ℕ × Fault) → slice_get faults k ≡ Some g → IfSome (slice_index_or reaches k None) (λ w. IsReach n values g.1 w.0 w.1)

-- the words are those of the patterns without a fault, the faults are of the netlist, and these are the heads that they may reach
pub record IsPass (n : Netlist) (values : List ℕ) (p : Pass) : Type 0 where
  pub points : ArePoints n p.points.now.seen.items p.points.now.first.items p.points.now.numbers.items
  pub good : AreGoodFor n p.patterns.now values
  pub used : IsUsed (length p.patterns.now) p.used
  pub lines : All (λ (g : ℕ × Fault). IsLineOf n g.1.line) p.faults.now
  pub reaches : AreReaches n values p.faults.now p.reaches.now
  pub size : length values ≡ length (signals n)

-- each change with the value before, and no other signal has another value; a change may leave a signal as it was
pub record HoldChanges (old new : List ℕ) (changes : List (Change ℕ)) : Type 0 where
  pub before : (c : Change ℕ) (e : ℕ) → Contains changes c → (c.signal < length old) × (c.before ≡ at old e c.signal)
  pub others : (x e : ℕ) → ((c : Change ℕ) → Contains changes c → c.signal ≢ x) → at new e x ≡ at old e x

-- what a head turned over left, from which the faults of a pass can be told: the words before it, and what changed
pub record CanTellAll (n : Netlist) (p : Pass) (t : TurnedWords) (new : List ℕ) (trail : List (Change ℕ)) : Type 0 where
  pub values : List ℕ
  pub pass : IsPass n values p
  pub held : HoldChanges values new trail
  pub over : SettlesOver (words None) (turned_words t.signal t.mask) n values new

-- the same, by what points see of what changed
pub record ShowAll (n : Netlist) (p : Pass) (t : TurnedWords) (shown : List Shown) : Type 0 where
  pub new : List ℕ
  pub trail : List (Change ℕ)
  pub can : CanTellAll n p t new trail
  pub shown_is : shown ≡ shown_of p.points.now.first.items (length p.points.now.seen.items) new trail

-- an evaluator of four words beside that of words, at rest
pub record IsBeside (n : Netlist) (w : Standing Four) : Type 0 where
  pub netlist : w.netlist ≡ n
  pub trail : w.trail ≡ []
  pub room : 3 ≤ w.room
  pub size : length w.values ≡ length (signals n)

-- the same with these words in each lane
pub record IsSpread (n : Netlist) (values : List ℕ) (w : Standing Four) : Type 0 where
  pub beside : IsBeside n w
  pub values_are : w.values ≡ map spread values

-- a head and a word for each signal
pub record HasRoom (n : Netlist) (heads opens : List ℕ) : Type 0 where
  pub heads_size : length heads ≡ length (signals n)
  pub opens_size : length opens ≡ length (signals n)
