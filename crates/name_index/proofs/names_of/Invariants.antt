use Rattle.std.proofs.Common.{◌≡◌, take}
use Rattle.name_index.specs.inner.Keys.{bytes_of}
use Rattle.name_index.proofs.names_of.Given as goal

abbrev pub invariant-loop-x : goal.invariant-loop-x
invariant-loop-x l = bytes_of l.names.keys ≡ take l.x l.netlist.names
