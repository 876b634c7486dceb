-- Batches of slow lines that are gathered from a list of faults.
use Rattle.std.specs.Prelude.{ℕ, ◌≡◌, ◌+◌, ◌<◌, ◌≤◌, ◌^◌, true, List, Some, length, slice_index_or}
use Rattle.std.specs.List.{All, AllPairs, AllZip, slice_get}
use Rattle.statement.specs.declared.lines.Fault.{Fault}
use Rattle.netlist.specs.Lines.{IsLineOf}
use Rattle.statement.specs.Netlists.{Netlist}
use Rattle.transition_batches.specs.Batches.{AreApart}
use Rattle.transition.specs.inner.Asked.{Asked}

-- the slots behind the first, so many, are for faults of the list
pub record IsShare (a : Asked) (first count : ℕ) : Type 0 where
  pub within : first + count ≤ length a.faults
  pub few : length a.faults < 2 ^ 32

-- this fault stands at the place, on a line of the netlist, is left, and goes with all that are taken
pub record MayJoin (a : Asked) (taken : List Fault) (place : ℕ) (f : Fault) : Type 0 where
  pub fault : slice_get a.faults place ≡ Some f
  pub line : IsLineOf a.netlist f.line
  pub marked : slice_index_or a.left place true ≡ true
  pub apart : All (λ (g : Fault). AreApart a.netlist g f) taken

-- the slot at this place, one of so many behind the first, is for this fault, which is left to be searched
pub record IsSlotOf (a : Asked) (first count k : ℕ) (f : Fault) : Type 0 where
  pub within : k < count
  pub fault : slice_get a.faults (first + k) ≡ Some f
  pub marked : slice_index_or a.left (first + k) true ≡ true

-- slow lines that go together
pub record AreTogether (n : Netlist) (slow : List Fault) : Type 0 where
  pub lines : All (λ (f : Fault). IsLineOf n f.line) slow
  pub apart : AllPairs (AreApart n) slow
  pub few : length slow ≤ 1024

-- such, with the places of their slots
pub record AreGathered (a : Asked) (first count : ℕ) (places : List ℕ) (slow : List Fault) : Type 0 where
  pub each : AllZip (IsSlotOf a first count) places slow
  pub together : AreTogether a.netlist slow
