-- What good files are beyond the statement where their certificate has trees alone: the run theorem as it was before there were refutations,
-- word for word, so that nothing is said less of such files.
use Rattle.std.specs.Prelude.{ℕ, ◌≡◌, ◌≤◌, ◌++◌, ⊤, List, Some, Ok, codes}
use Rattle.std.specs.List.{Contains, flat_map, slice_get}
use Rattle.statement.specs.declared.lines.Fault.{Fault}
use Rattle.statement.specs.Netlists.{Netlist}
use Rattle.statement.specs.Patterns.{Holds}
use Rattle.bench_text.specs.Reading.{IsRead}
use Rattle.bench_text.specs.declared.refusal.Names.TheVariants.{Design, Scanned}
use Rattle.scan_insert.specs.Scanned.{scanned_of}
use Rattle.statement.specs.Stils.{StilFile}
use Rattle.stil_read.specs.Reading.{StandsFor}
use Rattle.statement.specs.Faults.{fault_text, universe_of}
use Rattle.fault_collapse.specs.Joined.{IsEquivalent}
use Rattle.redundancy_cert.specs.declared.nodes.Node.{Node}
use Rattle.redundancy_cert.specs.Trees.{closed_count, open_count}
use Rattle.redundancy_cert.specs.Fits.{Fits}
use Rattle.certificate.specs.Certificates.{node_text}
use Rattle.statement.specs.declared.outcomes.Outcome.{Outcome}
use Rattle.statement.specs.declared.outcomes.Outcome.TheVariants.{Detected, Redundant, Aborted, Unasked}
use Rattle.statement.specs.Reports.{Line}
use Rattle.report.specs.Reports.{Report}
use Rattle.report.specs.Texts.{report_text}
use Rattle.statement.specs.Statement.{FiveFiles, Statement}
use Rattle.good_files.specs.RunTheorem.{as_written}

-- a fault, and the nodes of a tree in preorder
abbrev pub tree_line : Netlist → Fault × List Node → List ℕ
tree_line n p = fault_text n p.0 ++ (flat_map (node_text n) p.1 ++ codes "\n")

abbrev pub certificate_text : Netlist → List (Fault × List Node) → List ℕ
certificate_text n trees = codes "atpg certificate 1\n" ++ flat_map (tree_line n) trees

module _ (n : Netlist) (holds : Holds) (limit : ℕ) (trees : List (Fault × List Node)) where
  -- The tree stands in the certificate beside a fault of this one's class, and fits it.
  abbrev pub IsCertified : Fault → List Node → Type 0
  IsCertified f tree = (representative : Fault) × IsEquivalent n f representative × Contains trees (representative, tree) × Fits representative n holds tree

  -- The evidence for what is said of a fault that isn't detected. Redundant: a closed tree of its class. Aborted: one with an open end and exactly
  -- as many closed ends as the backtrack limit. Unasked: none.
  abbrev pub HasEvidence : Fault → Outcome → Type 0
  HasEvidence f (Detected place cycle) = ⊤
  HasEvidence f Redundant = (tree : List Node) × IsCertified f tree × (open_count tree ≡ 0)
  HasEvidence f Aborted = (tree : List Node) × IsCertified f tree × (closed_count tree ≡ limit) × (1 ≤ open_count tree)
  HasEvidence f Unasked = ⊤

-- The first file, read, is the netlist, the second, read as a scanned one, is the netlist with scan inserted, and the third stands for the test: the
-- statement holds of these. The report is one of its form, the certificate is that of some trees, and among these is the evidence for each line.
pub record TreeTheorem (n : Netlist) (holds : Holds) (chains : List (List ℕ)) (limit : ℕ) (file : StilFile) (files : FiveFiles) : Type 0 where
  pub said : Report
  pub trees : List (Fault × List Node)
  pub statement : Statement n holds chains (as_written files n file)
  pub scanned_is : statement.scanned ≡ scanned_of n chains
  pub test_is : statement.test ≡ file
  pub lines_are : statement.lines ≡ said.lines
  pub net_is : IsRead Design files.net (Ok n)
  pub scan_is : IsRead Scanned files.scan (Ok (scanned_of n chains))
  pub stil_is : StandsFor files.stil file
  pub certificate_is : files.certificate ≡ certificate_text n trees
  pub report_is : files.report ≡ report_text said
  pub evidence : (place : ℕ) (f : Fault) (line : Line) → slice_get (universe_of n) place ≡ Some f → slice_get said.lines place ≡ Some line
      → HasEvidence n holds limit trees f line.outcome
