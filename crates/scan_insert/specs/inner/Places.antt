-- Places of cells among all cells and in chains (private to this crate).
use Rattle.std.specs.Prelude.{ℕ, ◌≡◌, ◌+◌, ◌-◌, ◌*◌, ◌/◌, ◌%◌, ◌^◌, ◌<◌, ◌≤◌, min, nat_lt, if◌then◌else◌, List, length, slice_index}

-- where a chain begins, and how many cells it has
abbrev pub start_of : ℕ → ℕ → ℕ → ℕ
start_of cells chains chain = chain * (cells / chains) + min (cells % chains) chain

abbrev pub length_of : ℕ → ℕ → ℕ → ℕ
length_of cells chains chain = if nat_lt chain (cells % chains) then cells / chains + 1 else cells / chains

-- this one of the cells stands in this chain at this place
pub record IsPlaced (cells chains at chain place : ℕ) : Type 0 where
  pub in_chains : chain < chains
  pub in_chain : place < length_of cells chains chain
  pub is_at : start_of cells chains chain + place ≡ at

-- the table has the places of the first m cells, by how far their signals are above the least
pub record HasPlaces (least : ℕ) (places cells : List ℕ) (m : ℕ) : Type 0 where
  pub above : (k : ℕ) → k < m → least ≤ slice_index cells k
  pub within : (k : ℕ) → k < m → slice_index cells k - least < length places
  pub has_place : (k : ℕ) → k < m → slice_index places (slice_index cells k - least) ≡ k

pub record AreDealt (cells : List ℕ) (count least : ℕ) (places : List ℕ) : Type 0 where
  pub small : length cells < 2 ^ 32
  pub enough : count ≤ length cells
  pub some : 0 < length cells → 0 < count
  pub table : HasPlaces least places cells (length cells)
