-- The classes of a netlist's faults.
use Rattle.std.specs.Prelude.{ℕ, ◌≡◌, ◌↔◌, ◌<◌, length, slice_index, Some}
use Rattle.std.specs.List.{All, slice_get}
use Rattle.statement.specs.declared.lines.Fault.{Fault}
use Rattle.statement.specs.Netlists.{Netlist}
use Rattle.statement.specs.Faults.{universe_of}
use Rattle.fault_collapse.specs.Joined.{IsEquivalent}
use Rattle.fault_collapse.specs.Numbers.{Classes}

-- the fault is the representative of the class
abbrev pub Represents : Classes → ℕ → Fault → Type 0
Represents c class f = slice_get c.representatives class ≡ Some f

-- the class has a first member: it is the representative, and all faults before it are of lower classes
pub record HasFirst (n : Netlist) (c : Classes) (class : ℕ) : Type 0 where
  pub place : ℕ
  pub representative : (f : Fault) → Represents c class f → slice_get (universe_of n) place ≡ Some f
  pub member : slice_index c.numbers place ≡ class
  pub earlier : (j : ℕ) → j < place → slice_index c.numbers j < class

-- Faults are of one class if and only if the least equivalence holds them.
-- A class's representative is its first member, and classes are numbered in the order of their representatives.
pub record AreClasses (n : Netlist) (c : Classes) : Type 0 where
  pub size : length c.numbers ≡ length (universe_of n)
  pub within : All (λ class. class < length c.representatives) c.numbers
  pub equivalent : (i j : ℕ) (f g : Fault) → slice_get (universe_of n) i ≡ Some f → slice_get (universe_of n) j ≡ Some g
      → (slice_index c.numbers i ≡ slice_index c.numbers j) ↔ IsEquivalent n f g
  pub first : (class : ℕ) → class < length c.representatives → HasFirst n c class
