-- What is marked along the ways that are open.
use Rattle.std.specs.Prelude.{ℕ, ◌≡◌, ◌<◌, ◌⊎◌, Bool, length, slice_index_or, IsTrue}
use Rattle.std.specs.List.{Contains}
use Rattle.statement.specs.Netlists.{Definition, Netlist, cells}
use Rattle.netlist.specs.Netlist.{Reads}
use Rattle.refutation.specs.Refutations.{Told, may_differ}
use Rattle.refutation_check.specs.inner.Marks.{Marked, is_marked}

-- it is the signal, and may differ
abbrev pub IsDiffering : Told → ℕ → ℕ → Type 0
IsDiffering told x y = (y ≡ x) × IsTrue (may_differ told y)

-- the gates that read the signal, and may differ
abbrev pub PassedBy : Netlist → Told → ℕ → ℕ → Type 0
PassedBy n told x z = Reads n z x × IsTrue (may_differ told z)

-- an output, or a cell's pin
abbrev pub IsObserved : Netlist → ℕ → Type 0
IsObserved n x = Contains n.outputs x ⊎ ((d : Definition) × Contains (cells n) d × Contains d.pins x)

-- what reads it and may differ is marked, and it isn't observed
pub record IsPassed (n : Netlist) (told : Told) (m : Marked) (x : ℕ) : Type 0 where
  pub gates : (z : ℕ) → PassedBy n told x z → IsTrue (is_marked m.marks z)
  pub unseen : ¬ IsObserved n x

-- so of the marked ones, as far as the list goes
abbrev pub AreWaysPassed : Netlist → Told → Marked → ℕ → Type 0
AreWaysPassed n told m next = (j x : ℕ) → j < next → j < length m.list → slice_index_or m.list j x ≡ x → IsPassed n told m x

-- the set has the marked ones, and with each signal the gates that read it and may differ
pub record IsWayClosed (n : Netlist) (told : Told) (m : Marked) (set : ℕ → Bool) : Type 0 where
  pub marked : (x : ℕ) → IsTrue (is_marked m.marks x) → IsTrue (set x)
  pub passed : (x z : ℕ) → IsTrue (set x) → PassedBy n told x z → IsTrue (set z)

-- each such set has the signal
abbrev pub IsOnWays : Netlist → Told → Marked → ℕ → Type 0
IsOnWays n told m x = (set : ℕ → Bool) → IsWayClosed n told m set → IsTrue (set x)

abbrev pub AreOnWays : Netlist → Told → Marked → Marked → Type 0
AreOnWays n told old new = (x : ℕ) → IsTrue (is_marked new.marks x) → IsOnWays n told old x

-- an observed one is
abbrev pub IsWayOpen : Netlist → Told → Marked → Type 0
IsWayOpen n told m = (x : ℕ) × IsObserved n x × IsOnWays n told m x

-- none is
pub record IsWayShut (n : Netlist) (told : Told) (old new : Marked) : Type 0 where
  pub kept : (x : ℕ) → IsTrue (is_marked old.marks x) → IsTrue (is_marked new.marks x)
  pub passed : AreWaysPassed n told new (length new.list)
