-- Two rounds of searches: which faults each is over, and the answers of both.
use Rattle.std.specs.Prelude.{ℕ, ◌≡◌, ◌<◌, ◌%◌, ◌==◌, ◌&&◌, nat_lt, Bool, true, false, List, Option, Some, None, count_by, length, slice_index_or}
use Rattle.evidence.specs.declared.engine.Found.{Found}

-- more than 128 are left
abbrev pub are_many : List Bool → Bool
are_many left = nat_lt 128 (count_by (λ (is_left : Bool). is_left) left)

-- a fault that is left, at a place that 16 divides
abbrev pub is_sixteenth : Bool → ℕ → Bool
is_sixteenth is_left place = is_left && (place % 16 == 0)

-- where many faults are left, those of them at each sixteenth place; else none
pub record AreFirst (left marks : List Bool) : Type 0 where
  pub size : length marks ≡ length left
  pub each : (k : ℕ) → k < length left → slice_index_or marks k true ≡ (are_many left && is_sixteenth (slice_index_or left k true) k)

-- a fault that is left, and has no answer yet
abbrev pub unanswered : Bool → Option Found → Bool
unanswered left None = left
unanswered left (Some found) = false

-- of the faults that are left those that have no answer yet
pub record AreUnanswered (left : List Bool) (found : List (Option Found)) (marks : List Bool) : Type 0 where
  pub size : length marks ≡ length left
  pub each : (k : ℕ) → k < length left → slice_index_or marks k true ≡ unanswered (slice_index_or left k true) (slice_index_or found k None)

-- where a fault is left and the first round has an answer, that one; else the second's
abbrev pub joined : Bool → Option Found → Option Found → Option Found
joined false first second = second
joined true None second = second
joined true (Some found) second = Some found

-- the answers of both rounds, each at its fault's place
pub record AreJoined (left : List Bool) (first second answers : List (Option Found)) : Type 0 where
  pub size : length answers ≡ length left
  pub each : (k : ℕ) → k < length left → slice_index_or answers k None ≡ joined (slice_index_or left k true) (slice_index_or first k None) (slice_index_or second k None)
