use Rattle.std.proofs.Common.{◌≡◌, ◌++◌, length}
use Rattle.std.specs.List.{All, flat_map}
use Rattle.certificate.specs.Certificates.{node_text, HasSignal}
use Rattle.certificate.specs.Words.{IsEnd}
use Rattle.certificate.proofs.line.read_nodes.Given as goal

abbrev pub invariant-loop-rest : goal.invariant-loop-rest
invariant-loop-rest l = record {
  signals : All (HasSignal l.names) l.nodes.items;
  is : l.text ≡ flat_map (node_text l.names) l.nodes.items ++ l.rest;
  end : IsEnd l.rest;
}

abbrev pub decreases-loop-rest : goal.decreases-loop-rest
decreases-loop-rest l = length l.rest
