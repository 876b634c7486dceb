-- Classes that are marked where a line rests on evidence of one of their faults.
use Rattle.std.specs.Prelude.{ℕ, ◌≡◌, ◌<◌, Bool, true, false, List, length, slice_index_or, slice_set, if◌then◌else◌}
use Rattle.statement.specs.Reports.{Line}
use Rattle.run_report.specs.Outcomes.{is_left}

-- the class is marked where a line of it rests on evidence
abbrev pub marked : List Bool → ℕ → Bool → List Bool
marked marks class evident = if evident then slice_set marks class true else marks

-- of these lines, whose faults are of these classes
pub record AreMarked (classes : ℕ) (numbers : List ℕ) (lines : List Line) (marks : List Bool) : Type 0 where
  pub count : length marks ≡ classes
  pub each : (class : ℕ) → class < classes → slice_index_or marks class false ≡ is_left numbers lines class
