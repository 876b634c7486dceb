-- What stands in a line and how it goes on.
use Rattle.std.specs.Prelude.{ℕ, ◌≡◌, ◌++◌, Bool, true, false, List, codes}
use Rattle.std.specs.List.{All, Contains, flat_map}
use Rattle.statement.specs.declared.lines.Fault.{Fault}
use Rattle.statement.specs.Netlists.{Netlist}
use Rattle.statement.specs.Faults.{universe_of, fault_text}
use Rattle.redundancy_cert.specs.declared.nodes.Node.{Node}
use Rattle.evidence.specs.declared.kinds.Evidence.{Evidence}
use Rattle.certificate.specs.declared.node.Letter.{Letter}
use Rattle.certificate.specs.declared.node.Letter.TheVariants.{Closed, Open, Split, Forced}
use Rattle.certificate.specs.Certificates.{evidence_line, evidence_text, node_text, HasSignal, IsEvidence}
use Rattle.certificate.specs.Words.{IsEnd}

-- how a node begins
abbrev pub letter_word : Letter → List ℕ
letter_word Closed = codes "!"
letter_word Open = codes "?"
letter_word Split = codes "S"
letter_word Forced = codes "F"

abbrev pub bit_word : Bool → List ℕ
bit_word false = codes "0"
bit_word true = codes "1"

-- the text begins with the node
pub record IsNodeAt (n : Netlist) (text : List ℕ) (node : Node) (rest : List ℕ) : Type 0 where
  pub signal : HasSignal n node
  pub parts : text ≡ node_text n node ++ rest
  pub end : IsEnd rest

abbrev pub NoNodeAt : Netlist → List ℕ → Type 0
NoNodeAt n text = (node : Node) (rest : List ℕ) → ¬ IsNodeAt n text node rest

-- the text begins with the fault
pub record IsFaultAt (n : Netlist) (text : List ℕ) (fault : Fault) (rest : List ℕ) : Type 0 where
  pub member : Contains (universe_of n) fault
  pub parts : text ≡ fault_text n fault ++ rest
  pub end : IsEnd rest

abbrev pub NoFaultAt : Netlist → List ℕ → Type 0
NoFaultAt n text = (fault : Fault) (rest : List ℕ) → ¬ IsFaultAt n text fault rest

-- the text is that of the nodes
pub record AreNodes (n : Netlist) (text : List ℕ) (nodes : List Node) : Type 0 where
  pub signals : All (HasSignal n) nodes
  pub is : text ≡ flat_map (node_text n) nodes

-- the line, without its end, is that of the fault and its evidence
pub record IsLineOf (n : Netlist) (line : List ℕ) (p : Fault × Evidence) : Type 0 where
  pub evidence : IsEvidence n p
  pub text : line ≡ fault_text n p.0 ++ evidence_text n p.1

-- the text has these lines
pub record AreLines (n : Netlist) (text : List ℕ) (evidence : List (Fault × Evidence)) : Type 0 where
  pub each : All (IsEvidence n) evidence
  pub is : text ≡ flat_map (evidence_line n) evidence

abbrev pub NoLines : Netlist → List ℕ → Type 0
NoLines n text = (evidence : List (Fault × Evidence)) → ¬ AreLines n text evidence
