-- Laws of how often faults are detected, each the contract of a function of its name.
use Rattle.std.specs.Prelude.{ℕ, ◌≡◌, ◌↔◌, List}
use Rattle.statement.specs.declared.lines.Fault.{Fault}
use Rattle.statement.specs.Netlists.{Netlist}
use Rattle.statement.specs.Patterns.{Pattern}
use Rattle.detections.specs.Times.{IsDetectedBy, IsTimes}

-- There is one such number.
abbrev pub TimesOnce : Type 0
TimesOnce = (n : Netlist) (patterns : List Pattern) (most : ℕ) (f : Fault) (a b : ℕ) → IsTimes n patterns most f a → IsTimes n patterns most f b → a ≡ b

-- Faults that the same patterns detect, as equivalent ones, have the same number.
abbrev pub TimesAlike : Type 0
TimesAlike =
    (n : Netlist) (patterns : List Pattern) (most : ℕ) (f g : Fault) (times : ℕ)
    → ((place : ℕ) → IsDetectedBy n patterns f place ↔ IsDetectedBy n patterns g place)
    → IsTimes n patterns most f times → IsTimes n patterns most g times
