-- What a sink over a writer is seen as.
use Rattle.std.specs.Prelude.{ℕ, List, Option}

-- the bytes that the writer holds, where it tells them
pub record OutState : Type 0 where
  pub taken : Option (List ℕ)
  pub failures : ℕ
