use Rattle.std.proofs.Common.{◌≡◌}
use Rattle.transition_files.specs.inner.Reading.{every_second}
use Rattle.transition_files.proofs.LaunchBack.{is_even}
use Rattle.transition_files.proofs.patterns.every_second.Given as goal

abbrev pub invariant-loop-pattern : goal.invariant-loop-pattern
invariant-loop-pattern l = record { kept : l.kept.items ≡ every_second l.yielded; turn : l.is_launch ≡ is_even l.yielded }
