use denote.Text.{Utf8}
use denote.Shadow.{shadow}
use Rattle.std.specs.List.{All}
use Rattle.redundancy_cert.specs.Trees.{DecidesSignal}
use Rattle.case_nets.proofs.trees.nodes_of.Given as goal

abbrev pub invariant-loop : goal.invariant-loop
invariant-loop l = shadow (Utf8 l.rest) × All (DecidesSignal l.netlist) l.nodes.items
