use Rattle.std.proofs.Common.{◌≡◌, ◌++◌, take}
use Rattle.std.specs.List.{flat_map, zip}
use Rattle.test_commands.specs.ChainTests.{told_line}
use Rattle.test_commands.proofs.told_lines.push_lines.Given as goal

abbrev pub invariant-loop-i : goal.invariant-loop-i
invariant-loop-i l = l.text.items ≡ l.fn.text.items ++ flat_map (λ p. told_line l.netlist p.0 p.1) (take l.i (zip l.faults l.told))
