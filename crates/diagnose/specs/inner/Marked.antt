-- The places that a table of marks has.
use Rattle.std.specs.Prelude.{ℕ, Bool}
use Rattle.diagnose.specs.declared.marks.Marks.{Marks}
use Rattle.diagnose.specs.inner.Marks.{mark_at}

abbrev pub marked_in : Marks → ℕ → ℕ → Bool
marked_in m = mark_at m.rows m.width m.table.items
