-- An order in which each gate comes after the gates that it reads, as it is built (private to this crate).
use Rattle.std.specs.Prelude.{ℕ, map, ◌++◌, ◌≡◌, ◌≢◌, ◌+◌, ◌<◌, ◌≤◌, ◌==◌, ◌⊎◌, if◌then◌else◌, List, [], ◌∷◌, length, slice_index}
use Rattle.std.specs.List.{Contains}
use Rattle.statement.specs.Netlists.{Definition, Netlist, is_cell, cells, gates, signals}

abbrev pub zeros : List ℕ → ℕ
zeros [] = 0
zeros (r ∷ rs) = (if r == 0 then 1 else 0) + zeros rs

-- Inputs and cells have rank 1. The gates that are placed so far have the ranks from 2 on, in order, each above those that it reads.
-- The others have rank 0.
pub record IsPlaced (n : Netlist) (order ranks : List ℕ) : Type 0 where
  pub size : length ranks ≡ length (signals n)
  pub inputs : (x : ℕ) → Contains n.inputs x → slice_index ranks x ≡ 1
  pub cells : (d : Definition) → Contains (cells n) d → slice_index ranks d.id ≡ 1
  pub ranked : (k : ℕ) → k < length order → slice_index ranks (slice_index order k) ≡ k + 2
  pub above : (d : Definition) → Contains (gates n) d → 0 < slice_index ranks d.id
      → (x : ℕ) → Contains d.pins x → (0 < slice_index ranks x) × (slice_index ranks x < slice_index ranks d.id)
  pub listed : (d : Definition) → Contains (gates n) d → 0 < slice_index ranks d.id → Contains order d.id
  pub gates : (k : ℕ) → k < length order → (d : Definition) × Contains (gates n) d × (d.id ≡ slice_index order k)
  pub bounded : (x : ℕ) → slice_index ranks x ≤ length order + 1
  pub left : length order + zeros ranks ≤ length ranks

-- the gate is placed, or reads one that is not
abbrev pub IsSeen : List ℕ → Definition → Type 0
IsSeen ranks d = (0 < slice_index ranks d.id) ⊎ ((x : ℕ) × Contains d.pins x × (slice_index ranks x ≡ 0))

pub record IsSorted (n : Netlist) (order ranks : List ℕ) : Type 0 where
  pub placed : IsPlaced n order ranks
  pub seen : (d : Definition) → Contains (gates n) d → IsSeen ranks d

-- the ranks before any gate is placed
abbrev pub start_ranks : Netlist → List ℕ
start_ranks n = map (λ _. 1) n.inputs ++ map (λ (d : Definition). if is_cell d then 1 else 0) n.definitions

-- the first m signals are placed
abbrev pub HasRanks : List ℕ → ℕ → Type 0
HasRanks ranks m = (x : ℕ) → x < m → 0 < slice_index ranks x

-- the first m gates of the order have their places, and every other signal the place behind the last
pub record ArePlacesUpTo (order places : List ℕ) (count m : ℕ) : Type 0 where
  pub size : length places ≡ count
  pub here : (k : ℕ) → k < m → slice_index places (slice_index order k) ≡ k
  pub others : (x : ℕ) → x < count → ((k : ℕ) → k < m → x ≢ slice_index order k) → slice_index places x ≡ length order
