-- Signals that are marked, and the list of them.
use Rattle.std.specs.Prelude.{ℕ, ◌≡◌, ◌+◌, ◌<◌, ◌⊎◌, Bool, true, false, List, [], ◌∷◌, ◌++◌, length, slice_index_or, IsTrue, IsFalse}
use Rattle.std.specs.List.{All, Contains}
use Rattle.statement.specs.declared.lines.Line.{Line}
use Rattle.statement.specs.declared.lines.Line.TheVariants.{Pin}
use Rattle.statement.specs.Netlists.{Definition, Netlist}
use Rattle.netlist.specs.Netlist.{Reads}

pub record Marked : Type 0 where
  pub marks : List Bool
  pub list : List ℕ

abbrev pub marked : List Bool → List ℕ → Marked
marked marks list = record { marks = marks; list = list }

abbrev pub is_marked : List Bool → ℕ → Bool
is_marked marks x = slice_index_or marks x false

-- the list has exactly the marked ones
pub record AreListed (m : Marked) : Type 0 where
  pub each : All (λ x. IsTrue (is_marked m.marks x)) m.list
  pub only : (x : ℕ) → IsTrue (is_marked m.marks x) → Contains m.list x

-- none is
pub record IsClear (m : Marked) : Type 0 where
  pub none : (x : ℕ) → IsFalse (is_marked m.marks x)
  pub list : m.list ≡ []

-- how many aren't
abbrev pub unmarked : List Bool → ℕ
unmarked [] = 0
unmarked (true ∷ marks) = unmarked marks
unmarked (false ∷ marks) = unmarked marks + 1

-- more are marked, of those of the set, and the list has them at its end
pub record Spreads (set : ℕ → Type 0) (old new : Marked) : Type 0 where
  pub size : length new.marks ≡ length old.marks
  pub ids : List ℕ
  pub list : new.list ≡ old.list ++ ids
  pub kept : (x : ℕ) → IsTrue (is_marked old.marks x) → IsTrue (is_marked new.marks x)
  pub only : (x : ℕ) → IsTrue (is_marked new.marks x) → IsTrue (is_marked old.marks x) ⊎ set x
  pub count : unmarked new.marks + length new.list ≡ unmarked old.marks + length old.list
  pub listed : AreListed old → AreListed new

-- it is the signal
abbrev pub Is : ℕ → ℕ → Type 0
Is x y = y ≡ x

-- the gates that read the signal
abbrev pub ReadersOf : Netlist → ℕ → ℕ → Type 0
ReadersOf n x z = Reads n z x

-- what reads a marked one is marked, as far as the list goes
abbrev pub ArePassed : Netlist → Marked → ℕ → Type 0
ArePassed n m next = (j x : ℕ) → j < next → j < length m.list → slice_index_or m.list j x ≡ x → (z : ℕ) → Reads n z x → IsTrue (is_marked m.marks z)

-- each set that has the first ones, and with each signal the gates that read it, has these
abbrev pub AreReachedFrom : Netlist → Marked → Marked → Type 0
AreReachedFrom n old new =
    (set : ℕ → Bool) → ((x : ℕ) → IsTrue (is_marked old.marks x) → IsTrue (set x)) → ((x z : ℕ) → IsTrue (set x) → Reads n z x → IsTrue (set z))
    → (x : ℕ) → IsTrue (is_marked new.marks x) → IsTrue (set x)

-- a pin is one of a definition
abbrev pub IsDefinedPin : Netlist → Line → Type 0
IsDefinedPin n line = (z k : ℕ) → line ≡ Pin z k → (d : Definition) × Contains n.definitions d × (d.id ≡ z)
