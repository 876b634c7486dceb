-- How often each fault is detected, by its class.
use Rattle.std.specs.Prelude.{ℕ, ◌≡◌, ◌<◌, List, slice_index}
use Rattle.fault_collapse.specs.Numbers.{Classes}

-- at each of so many places the number that is said is that of the fault's class
abbrev pub AreOfClasses : Classes → List ℕ → List ℕ → ℕ → Type 0
AreOfClasses classes times said count = (place : ℕ) → place < count → slice_index said place ≡ slice_index times (slice_index classes.numbers place)
