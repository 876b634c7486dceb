-- The gates that a change calls, by their places in the order of evaluation.
use Rattle.std.specs.Prelude.{ℕ, ◌≡◌, ◌<◌, ◌==◌, ◌||◌, nat_lt, cond, Bool, false, List, [], ◌∷◌, length, slice_index, slice_index_or}
use Rattle.std.specs.List.{list_any}
use Rattle.statement.specs.declared.lines.Line.{Line}
use Rattle.statement.specs.declared.lines.Line.TheVariants.{Stem, Pin, Out}
use Rattle.statement.specs.Netlists.{Netlist, signals, readers_of}
use Rattle.netlist.specs.Orders.{IsOrder, ArePlaces}
use Rattle.plain_text.specs.Rows.{AreEnds, rows}
use Rattle.events.specs.Agendas.{marked}

-- a signal waits where its place is marked
abbrev pub waiting : List Bool → List ℕ → ℕ → Bool
waiting marks places x = marked marks (slice_index places x)

-- the line is a pin of the gate at place q
abbrev pub is_pin_at : List ℕ → ℕ → Line → Bool
is_pin_at places q (Pin z k) = slice_index places z == q
is_pin_at places q (Stem z) = false
is_pin_at places q (Out z) = false

-- the gates that have pins among these lines are marked too
pub record Calls (lines : List Line) (places : List ℕ) (old new : List Bool) : Type 0 where
  pub size : length new ≡ length old
  pub each : (q : ℕ) → q < length old → marked new q ≡ (marked old q || list_any (is_pin_at places q) lines)

-- these places are marked too
pub record Marks (row : List ℕ) (old new : List Bool) : Type 0 where
  pub size : length new ≡ length old
  pub each : (q : ℕ) → q < length old → marked new q ≡ (marked old q || list_any (λ p. p == q) row)

-- the places of the gates that have pins among these lines
abbrev pub called : List ℕ → ℕ → List Line → List ℕ
called places bound [] = []
called places bound (Pin z k ∷ lines) = cond (nat_lt (slice_index places z) bound) (slice_index places z ∷ called places bound lines) (called places bound lines)
called places bound (Stem z ∷ lines) = called places bound lines
called places bound (Out z ∷ lines) = called places bound lines

-- the places of the gates that read each signal
pub record AreFans (n : Netlist) (places : List ℕ) (bound : ℕ) (fans : List (List ℕ)) : Type 0 where
  pub size : length fans ≡ length (signals n)
  pub each : (x : ℕ) → x < length (signals n) → slice_index_or fans x [] ≡ called places bound (readers_of n x)

-- what the evaluator reads of the netlist
pub record AreTables (n : Netlist) (order places : List ℕ) (fans : List (List ℕ)) : Type 0 where
  pub ordered : IsOrder n order
  pub placed : ArePlaces n order places
  pub fanned : AreFans n places (length order) fans

-- the lists of the first m signals stand one behind the other
pub record AreFansUpTo (n : Netlist) (places : List ℕ) (bound : ℕ) (items ends : List ℕ) (m : ℕ) : Type 0 where
  pub ends_are : AreEnds 0 items ends
  pub size : length ends ≡ m
  pub each : (x : ℕ) → x < m → slice_index_or (rows 0 items ends) x [] ≡ called places bound (readers_of n x)
