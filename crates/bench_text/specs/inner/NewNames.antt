-- Numbers that names are given (private to this crate).
use Rattle.std.specs.Prelude.{ℕ, ◌≡◌, List, Some, slice_get}
use Rattle.bench_text.specs.Sights.{with_name}

-- no name stands twice
abbrev pub AreDistinct : List (List ℕ) → Type 0
AreDistinct names = (i j : ℕ) (x : List ℕ) → slice_get names i ≡ Some x → slice_get names j ≡ Some x → i ≡ j

-- n is the number of x among the new names, which are the old ones with x, unless it was there
pub record IsNumber (old new : List (List ℕ)) (x : List ℕ) (n : ℕ) : Type 0 where
  pub names : new ≡ with_name old x
  pub here : slice_get new n ≡ Some x
