-- What a list of patterns detects of a slow line.
use Rattle.std.specs.Prelude.{ℕ, ◌≡◌, ◌<◌, List, Option, Some, None}
use Rattle.std.specs.List.{slice_get}
use Rattle.statement.specs.declared.lines.Fault.{Fault}
use Rattle.statement.specs.declared.lines.Point.{Point}
use Rattle.statement.specs.Netlists.{Netlist}
use Rattle.statement.specs.Patterns.{Pattern, IsBefore}
use Rattle.transition_frames.specs.Transition.{DetectsTransition}

-- the pattern at this place of the list detects the transition fault at the point
pub record IsTransitionDetectedAt (n : Netlist) (patterns : List Pattern) (f : Fault) (place : ℕ) (point : Point) : Type 0 where
  pub pattern : Pattern
  pub at : slice_get patterns place ≡ Some pattern
  pub detects : DetectsTransition n f pattern.inputs pattern.cells point

-- the last pattern of the list that detects the transition fault, and the first point at which it does
pub record IsLastTransition (n : Netlist) (patterns : List Pattern) (f : Fault) (place : ℕ) (point : Point) : Type 0 where
  pub here : IsTransitionDetectedAt n patterns f place point
  pub last : (later : ℕ) (p : Point) → place < later → ¬ IsTransitionDetectedAt n patterns f later p
  pub first : (p : Point) → IsBefore p point → ¬ IsTransitionDetectedAt n patterns f place p

-- where it is last detected, if at all
abbrev pub LastTransition : Netlist → List Pattern → Fault → Option (ℕ × Point) → Type 0
LastTransition n patterns f None = (place : ℕ) (p : Point) → ¬ IsTransitionDetectedAt n patterns f place p
LastTransition n patterns f (Some w) = IsLastTransition n patterns f w.0 w.1

-- some pattern of the list detects the transition fault
abbrev pub IsDetected : Netlist → List Pattern → Fault → Type 0
IsDetected n patterns f = (place : ℕ) × (point : Point) × IsLastTransition n patterns f place point
