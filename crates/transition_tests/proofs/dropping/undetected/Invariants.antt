use Rattle.std.proofs.Common.{◌≡◌, ℕ, Option, map, not, take}
use Rattle.std.specs.Option.{is_some}
use Rattle.statement.specs.declared.lines.Point.{Point}
use Rattle.transition_tests.proofs.dropping.undetected.Given as goal

abbrev pub invariant-loop-l : goal.invariant-loop-l
invariant-loop-l l = l.left.items ≡ map (λ (o : Option (ℕ × Point)). not (is_some o)) (take l.l-index l.last)
