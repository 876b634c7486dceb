use Rattle.std.proofs.Common.{◌≡◌, ◌++◌, map, take}
use Rattle.bench_text.specs.Sights.{name_at}
use Rattle.bench_text.specs.Canonical.{port_line, ended}
use Rattle.bench_text.proofs.writer.push_ports.Given as goal

abbrev pub invariant-loop-id : goal.invariant-loop-id
invariant-loop-id l = l.out.items ≡ l.fn.out.items ++ ended (map (λ x. port_line l.keyword (name_at l.netlist.names x)) (take l.id-index l.ids))
