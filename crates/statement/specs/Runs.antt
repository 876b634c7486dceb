-- Cycles of a tester, what a netlist shows under them, and when a test passes or fails on it.
use Rattle.std.specs.Prelude.{ℕ, ◌+◌, suc, zero, List, [], ◌∷◌, ◌==◌, cond, ◌++◌, codes, Bool, ◌≡◌, map, Option, ⊤, slice_index_or, slice_get, IsTrue, not, Some}
use Rattle.std.specs.List.{list_any, AllZip}
use Rattle.statement.specs.declared.kinds.Tri.{Tri}
use Rattle.statement.specs.declared.kinds.Tri.TheVariants.{X}
use Rattle.statement.specs.declared.lines.Fault.{Fault}
use Rattle.statement.specs.Netlists.{Netlist, name_of}
use Rattle.statement.specs.Values.{Table, Settles, with_fault, outs, next, bit_table, allows, known}

-- so many numbers from one on
abbrev pub numbers_from : ℕ → ℕ → List ℕ
numbers_from first zero = []
numbers_from first (suc count) = first ∷ numbers_from (first + 1) count

-- The name of the pin at an output: the signal's name, or another where the signal is an input too.
abbrev pub output_name : Netlist → ℕ → List ℕ
output_name n x = cond (list_any (λ y. y == x) n.inputs) (codes "SC__o_" ++ name_of n x) (name_of n x)

-- The inputs are driven, the outputs settle and are strobed, and then a pulse of the clock, if there is one, ticks the cells.
pub record Cycle : Type 0 where
  pub drive : List Bool
  pub strobe : List Tri  -- for each output the bit that it has to show, or X where it isn't strobed
  pub pulse : Bool

-- One cycle from a state: what the outputs show, and what the cells hold afterwards. They take their next values where the cycle has a pulse, and else stay.
pub record Ticks {V : Type 0} (table : Table V) (f : Option Fault) (n : Netlist) (state : List V) (cycle : Cycle) (shown after : List V) : Type 0 where
  pub values : ℕ → V
  pub settles : Settles (with_fault table f) n (map table.known cycle.drive) state values
  pub shows : shown ≡ outs (with_fault table f) n values
  pub keeps : after ≡ cond cycle.pulse (next (with_fault table f) n values) state

-- A run from a state, one cycle after the other: what the outputs show in each.
abbrev pub Runs : {V : Type 0} → Table V → Option Fault → Netlist → List V → List Cycle → List (List V) → Type 0
Runs table f n state [] [] = ⊤
Runs {V} table f n state (cycle ∷ cycles) (shown ∷ rest) = (after : List V) × Ticks table f n state cycle shown after × Runs table f n after cycles rest
Runs table f n state _ _ = ⊥

-- the strobe of a cycle at an output, and what is shown there
abbrev pub strobe_at : List Cycle → ℕ → ℕ → Tri
strobe_at cycles c o = slice_index_or (slice_index_or (map (λ (x : Cycle). x.strobe) cycles) c []) o X

abbrev pub shown_at : {V : Type 0} → List (List V) → ℕ → ℕ → Option V
shown_at shown c o = slice_get (slice_index_or shown c []) o

-- From every power-up state each strobe of a bit meets that bit.
abbrev pub Passes : Netlist → Option Fault → List Cycle → Type 0
Passes n f cycles =
    (state : List Bool) (shown : List (List Bool)) → Runs bit_table f n state cycles shown → AllZip (λ (cycle : Cycle) bits. AllZip (λ v b. IsTrue (allows v b)) cycle.strobe bits) cycles shown

-- From every power-up state the strobe of cycle c at output o is of a bit, and the other bit is shown there.
abbrev pub FailsAt : Netlist → Option Fault → List Cycle → ℕ → ℕ → Type 0
FailsAt n f cycles c o =
    (b : Bool) × (strobe_at cycles c o ≡ known b)
    × ((state : List Bool) (shown : List (List Bool)) → Runs bit_table f n state cycles shown → shown_at shown c o ≡ Some (not b))
