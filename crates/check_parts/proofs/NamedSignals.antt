-- Evidence that is read names signals of the netlist.
use Rattle.std.specs.List.{All}
use Rattle.std.proofs.lemmas.List.Elements.{All-weaker}
use Rattle.statement.specs.Netlists.{Netlist}
use Rattle.netlist.specs.Conditions.{IsSound}
use Rattle.netlist.proofs.Placed.{signal_from}
use Rattle.redundancy_cert.specs.declared.nodes.Node.{Node}
use Rattle.redundancy_cert.specs.declared.nodes.Node.TheVariants.{Closed, Open, Split, Forced}
use Rattle.redundancy_cert.specs.Trees.{DecidesSignal}
use Rattle.evidence.specs.declared.kinds.Evidence.{Evidence}
use Rattle.evidence.specs.declared.kinds.Evidence.TheVariants.{Tree, Refutation}
use Rattle.certificate.specs.Certificates.{HasSignal, IsWellFormed}
use Rattle.check_parts.specs.Checkers.{NamesSignals}

decides : (n : Netlist) → IsSound n → (node : Node) → HasSignal n node → DecidesSignal n node
decides n sound Closed has = tt
decides n sound Open has = tt
decides n sound (Split x) has = signal_from n sound.formed.numbered x has
decides n sound (Forced x b) has = signal_from n sound.formed.numbered x has

pub names : (n : Netlist) → IsSound n → (e : Evidence) → IsWellFormed n e → NamesSignals n e
names n sound (Tree nodes) formed = All-weaker (HasSignal n) (DecidesSignal n) (decides n sound) nodes formed.0
names n sound (Refutation steps) formed = tt
