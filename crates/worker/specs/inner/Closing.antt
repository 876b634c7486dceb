-- What the work on one class does to the list.
use Rattle.std.specs.Prelude.{ℕ, ◌≡◌, ◌+◌, ◌≤◌, false, length}
use Rattle.list_core.specs.States.{State}
use Rattle.list_core.specs.Verdicts.{verdict_at, is_open}

-- the class isn't Open, and none opens again; there are so many claims more at most, and one pattern
pub record IsClosed (class more : ℕ) (before after : State) : Type 0 where
  pub closed : is_open (verdict_at after.verdicts class) ≡ false
  pub stays : (c : ℕ) → is_open (verdict_at before.verdicts c) ≡ false → is_open (verdict_at after.verdicts c) ≡ false
  pub claims : after.claims ≤ before.claims + more
  pub few : length after.patterns ≤ length before.patterns + 1
