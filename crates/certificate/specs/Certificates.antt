-- Certificates as texts, which stand for them byte for byte.
use Rattle.std.specs.Prelude.{if◌then◌else◌, Bool, true, false, List, ◌++◌, codes, ℕ, ◌<◌, ◌≡◌, ⊤}
use Rattle.std.specs.List.{All, Contains, flat_map, list_any}
use Rattle.statement.specs.declared.lines.Fault.{Fault}
use Rattle.statement.specs.Netlists.{Netlist, name_of}
use Rattle.netlist.specs.Netlist.{signal_count}
use Rattle.netlist.specs.Lines.{signal_of}
use Rattle.statement.specs.Faults.{fault_text, universe_of}
use Rattle.redundancy_cert.specs.declared.nodes.Node.{Node}
use Rattle.redundancy_cert.specs.declared.nodes.Node.TheVariants.{Closed, Open, Split, Forced}
use Rattle.redundancy_cert.specs.Trees.{IsOneTree}
use Rattle.refutation_text.specs.Texts.{text_of, IsStep}
use Rattle.evidence.specs.declared.kinds.Evidence.{Evidence}
use Rattle.evidence.specs.declared.kinds.Evidence.TheVariants.{Tree, Refutation}
use Rattle.certificate.specs.declared.reading.CertFault.{CertFault}
use Rattle.certificate.specs.declared.reading.CertFault.TheVariants.{NotCertificate, NoMemory}

-- `!`, `?`, `S x`, `F x 0`, each behind a blank
abbrev pub node_text : Netlist → Node → List ℕ
node_text n Closed = codes " !"
node_text n Open = codes " ?"
node_text n (Split x) = codes " S " ++ name_of n x
node_text n (Forced x bit) = codes " F " ++ (name_of n x ++ (if bit then codes " 1" else codes " 0"))

-- the nodes of a tree in preorder; `R` and the steps of a refutation
abbrev pub evidence_text : Netlist → Evidence → List ℕ
evidence_text n (Tree nodes) = flat_map (node_text n) nodes
evidence_text n (Refutation steps) = codes " R" ++ text_of steps

-- a fault, and its evidence
abbrev pub evidence_line : Netlist → Fault × Evidence → List ℕ
evidence_line n p = fault_text n p.0 ++ (evidence_text n p.1 ++ codes "\n")

abbrev pub is_refutation : Evidence → Bool
is_refutation (Tree nodes) = false
is_refutation (Refutation steps) = true

abbrev pub has_refutation : List (Fault × Evidence) → Bool
has_refutation evidence = list_any (λ (p : Fault × Evidence). is_refutation p.1) evidence

-- whether there are refutations
abbrev pub first_line : Bool → List ℕ
first_line refutes = if refutes then codes "atpg certificate 2\n" else codes "atpg certificate 1\n"

abbrev pub certificate_text : Netlist → List (Fault × Evidence) → List ℕ
certificate_text n evidence = first_line (has_refutation evidence) ++ flat_map (evidence_line n) evidence

-- ---- which evidence has a text

-- its signal is one of the netlist
abbrev pub HasSignal : Netlist → Node → Type 0
HasSignal n Closed = Unit {0}
HasSignal n Open = Unit {0}
HasSignal n (Split x) = x < signal_count n
HasSignal n (Forced x bit) = x < signal_count n

-- a tree names signals of the netlist; a refutation has numbers, which may name nothing
abbrev pub HasSignals : Netlist → Evidence → Type 0
HasSignals n (Tree nodes) = All (HasSignal n) nodes
HasSignals n (Refutation steps) = Unit {0}

-- the numbers of a refutation are below 2^32
abbrev pub HasSmallNumbers : Evidence → Type 0
HasSmallNumbers (Tree nodes) = Unit {0}
HasSmallNumbers (Refutation steps) = All IsStep steps

pub record IsNamed (n : Netlist) (p : Fault × Evidence) : Type 0 where
  pub fault : signal_of p.0.line < signal_count n
  pub signals : HasSignals n p.1

-- one tree of decisions on signals of the netlist; steps whose numbers are below 2^32
abbrev pub IsWellFormed : Netlist → Evidence → Type 0
IsWellFormed n (Tree nodes) = All (HasSignal n) nodes × IsOneTree nodes
IsWellFormed n (Refutation steps) = All IsStep steps

-- the text is that of the evidence
pub record IsTextOf (n : Netlist) (text : List ℕ) (e : Evidence) : Type 0 where
  pub formed : IsWellFormed n e
  pub is : text ≡ evidence_text n e

abbrev pub NoText : Netlist → List ℕ → Type 0
NoText n text = (e : Evidence) → ¬ IsTextOf n text e

-- a fault of the netlist, and such evidence
pub record IsEvidence (n : Netlist) (p : Fault × Evidence) : Type 0 where
  pub fault : Contains (universe_of n) p.0
  pub formed : IsWellFormed n p.1

-- the bytes are the certificate of this evidence, in this order
pub record IsCertificate (n : Netlist) (bytes : List ℕ) (evidence : List (Fault × Evidence)) : Type 0 where
  pub each : All (IsEvidence n) evidence
  pub text : bytes ≡ certificate_text n evidence

abbrev pub NoCertificate : Netlist → List ℕ → Type 0
NoCertificate n bytes = (evidence : List (Fault × Evidence)) → ¬ IsCertificate n bytes evidence

-- why a reader answers NotCertificate; want of memory may come at any time
abbrev pub IsCertFault : Type 0 → CertFault → Type 0
IsCertFault none NotCertificate = none
IsCertFault none NoMemory = ⊤
