-- Signals of the two frames have the same names and numbers for every slow line.
use Rattle.std.proofs.Common.{◌≡◌, ℕ, List, [], ◌∷◌, ◌++◌, codes, refl, ap, ap₂}
use Rattle.std.specs.List.{flat_map}
use Rattle.statement.specs.declared.lines.Fault.{Fault}
use Rattle.statement.specs.Netlists.{Netlist}
use Rattle.redundancy_cert.specs.declared.nodes.Node.{Node}
use Rattle.redundancy_cert.specs.declared.nodes.Node.TheVariants.{Closed, Open, Split, Forced}
use Rattle.evidence.specs.declared.kinds.Evidence.{Evidence}
use Rattle.evidence.specs.declared.kinds.Evidence.TheVariants.{Tree, Refutation}
use Rattle.certificate.specs.Certificates.{evidence_text, node_text}
use Rattle.transition_frames.specs.Frames.{frames_of}
use Rattle.transition_report.specs.Texts.{transition_text, transition_line}

module _ (n : Netlist) (f g : Fault) where
  same_node : (node : Node) → node_text (frames_of n f) node ≡ node_text (frames_of n g) node
  same_node Closed = refl
  same_node Open = refl
  same_node (Split x) = refl
  same_node (Forced x bit) = refl

  same_nodes : (nodes : List Node) → flat_map (node_text (frames_of n f)) nodes ≡ flat_map (node_text (frames_of n g)) nodes
  same_nodes [] = refl
  same_nodes (node ∷ nodes) = ap₂ (λ (x y : List ℕ). x ++ y) (same_node node) (same_nodes nodes)

  same_evidence : (e : Evidence) → evidence_text (frames_of n f) e ≡ evidence_text (frames_of n g) e
  same_evidence (Tree nodes) = same_nodes nodes
  same_evidence (Refutation steps) = refl

-- by the frames of one fault, and each by its own
pub same_lines : (n : Netlist) (f : Fault) (evidence : List (Fault × Evidence))
    → flat_map (transition_line n (frames_of n f)) evidence ≡ flat_map (λ (p : Fault × Evidence). transition_line n (frames_of n p.0) p) evidence
same_lines n f [] = refl
same_lines n f (p ∷ evidence) =
    ap₂ (λ (x y : List ℕ). x ++ y) (ap (λ (t : List ℕ). transition_text n p.0 ++ (t ++ codes "\n")) (same_evidence n f p.0 p.1)) (same_lines n f evidence)
