use Rattle.std.proofs.Common.{◌≡◌, ◌++◌, take}
use Rattle.std.specs.List.{flat_map, zip}
use Rattle.statement.specs.Faults.{universe_of}
use Rattle.atpg_top.specs.FaultLists.{listed_fault_line}
use Rattle.commands.specs.Pieces.{Waits}
use Rattle.atpg_top.proofs.fault_list.put_faults.Given as goal

abbrev pub invariant-loop-i : goal.invariant-loop-i
invariant-loop-i g l = record {
  told : Waits (g.T.Sink.taken l.fn.out) (g.T.Sink.taken l.out) (l.fn.text.items ++ flat_map (λ p. listed_fault_line l.fn.netlist p.0 p.1) (take l.i (zip (universe_of l.fn.netlist) l.fn.classes.numbers))) l.text.items;
  cause : g.T.Sink.failures l.out ≡ g.T.Sink.failures l.fn.out;
}
