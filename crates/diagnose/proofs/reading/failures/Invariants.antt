use Rattle.std.proofs.Common.{◌≡◌, ◌++◌, length}
use Rattle.std.specs.List.{All, flat_map}
use Rattle.diagnose.specs.Failures.{IsFailing}
use Rattle.diagnose.specs.Texts.{failing_line}
use Rattle.diagnose.proofs.reading.failures.Given as goal

abbrev pub invariant-lines : goal.invariant-lines
invariant-lines l = record { read : l.text ≡ flat_map failing_line l.lines ++ l.rest; valid : All IsFailing l.lines }

abbrev pub decreases-lines : goal.decreases-lines
decreases-lines l = length l.rest
