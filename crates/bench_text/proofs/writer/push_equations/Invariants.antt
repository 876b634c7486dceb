use Rattle.std.proofs.Common.{◌≡◌, ◌++◌, map, take}
use Rattle.bench_text.specs.Canonical.{equation_line, ended}
use Rattle.bench_text.proofs.writer.push_equations.Given as goal

abbrev pub invariant-loop-equation : goal.invariant-loop-equation
invariant-loop-equation l = l.out.items ≡ l.fn.out.items ++ ended (map (equation_line l.netlist.names) (take l.equation-index l.equations))
