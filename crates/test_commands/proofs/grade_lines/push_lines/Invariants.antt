use Rattle.std.proofs.Common.{◌≡◌, ◌++◌, take}
use Rattle.std.specs.List.{flat_map, zip}
use Rattle.test_commands.specs.Grades.{grade_line}
use Rattle.test_commands.proofs.grade_lines.push_lines.Given as goal

abbrev pub invariant-loop-i : goal.invariant-loop-i
invariant-loop-i l = l.text.items ≡ l.fn.text.items ++ flat_map (λ p. grade_line l.design l.pins p.0 p.1) (take l.i (zip l.faults l.grades))
