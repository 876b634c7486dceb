-- Orders of evaluation, as compiled-code simulation takes them (Breuer and Friedman, Diagnosis and Reliable Design of Digital
-- Systems, 1976), and the place of each signal in one.
use Rattle.std.specs.Prelude.{ℕ, ◌≡◌, ◌≢◌, ◌<◌, List, length, slice_index}
use Rattle.std.specs.List.{All, AllPairs, Contains}
use Rattle.statement.specs.Netlists.{Definition, Netlist, gates, signals}
use Rattle.netlist.specs.Netlist.{Reads, IsGateAt}

-- it has gates alone, each of them, once, and each after the gates that it reads
pub record IsOrder (n : Netlist) (order : List ℕ) : Type 0 where
  pub members : All (IsGateAt n) order
  pub all : All (λ (g : Definition). Contains order g.id) (gates n)
  pub once : AllPairs (λ x y. x ≢ y) order
  pub after : (j k : ℕ) → j < length order → k < length order → Reads n (slice_index order k) (slice_index order j) → j < k

-- a gate has its place in the order, an input or a cell the place behind the last
pub record ArePlaces (n : Netlist) (order places : List ℕ) : Type 0 where
  pub size : length places ≡ length (signals n)
  pub gates : (k : ℕ) → k < length order → slice_index places (slice_index order k) ≡ k
  pub sources : (x : ℕ) → Contains (signals n) x → ¬ IsGateAt n x → slice_index places x ≡ length order

-- an order and the places in it
pub record IsSchedule (n : Netlist) (order places : List ℕ) : Type 0 where
  pub ordered : IsOrder n order
  pub placed : ArePlaces n order places
