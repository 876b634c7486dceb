-- What signals may have, with a trail of what they had before.
use Rattle.std.specs.Prelude.{ℕ, ◌≡◌, List, [], ◌∷◌, ◌++◌, length, slice_set}
use Rattle.refutation.specs.declared.pairs.Pairs.{Pairs}
use Rattle.refutation_check.specs.declared.sets.Change.{Change}
use Rattle.refutation.specs.Refutations.{Told, told_of}

pub record Trailed : Type 0 where
  pub told : Told
  pub trail : List Change

-- these changes taken back, the last one first
abbrev pub undone : List Change → Told → Told
undone [] told = told
undone (c ∷ cs) told = slice_set (undone cs told) c.signal c.before

-- what was can be had back
pub record Grows (was now : Trailed) : Type 0 where
  pub changes : List Change
  pub trail : now.trail ≡ was.trail ++ changes
  pub told : undone changes now.told ≡ was.told
  pub size : length now.told ≡ length was.told

-- the signal has this set
abbrev pub put : Trailed → ℕ → Pairs → Trailed
put t x set = record { told = slice_set t.told x set; trail = t.trail ++ record { signal = x; before = told_of t.told x } ∷ [] }
