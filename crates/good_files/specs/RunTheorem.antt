-- What good files are beyond the statement: how their texts are read, and what the certificate shows.
use Rattle.std.specs.Prelude.{ℕ, ◌≡◌, ◌≤◌, ⊤, List, Some, Ok}
use Rattle.std.specs.List.{Contains, slice_get}
use Rattle.statement.specs.declared.lines.Fault.{Fault}
use Rattle.statement.specs.Netlists.{Netlist}
use Rattle.statement.specs.Patterns.{Holds}
use Rattle.statement.specs.Benches.{canonical}
use Rattle.bench_text.specs.Reading.{IsRead}
use Rattle.bench_text.specs.declared.refusal.Names.TheVariants.{Design, Scanned}
use Rattle.scan_insert.specs.Scanned.{scanned_of}
use Rattle.statement.specs.Stils.{StilFile, stil_text}
use Rattle.stil_read.specs.Reading.{StandsFor}
use Rattle.statement.specs.Faults.{universe_of}
use Rattle.fault_collapse.specs.Joined.{IsEquivalent}
use Rattle.redundancy_cert.specs.declared.nodes.Node.{Node}
use Rattle.redundancy_cert.specs.Trees.{closed_count, open_count}
use Rattle.evidence.specs.declared.kinds.Evidence.{Evidence}
use Rattle.evidence.specs.declared.kinds.Evidence.TheVariants.{Tree}
use Rattle.evidence.specs.Evidence.{Shows, open_ends}
use Rattle.certificate.specs.Certificates.{IsCertificate}
use Rattle.statement.specs.declared.outcomes.Outcome.{Outcome}
use Rattle.statement.specs.declared.outcomes.Outcome.TheVariants.{Detected, Redundant, Aborted, Unasked}
use Rattle.statement.specs.Reports.{Line}
use Rattle.report.specs.Reports.{Report}
use Rattle.report.specs.Texts.{report_text}
use Rattle.run_report.specs.Times.{HasTimes}
use Rattle.statement.specs.Statement.{FiveFiles, Statement}

-- the same files, with the netlist and the test as a run writes them
abbrev pub as_written : FiveFiles → Netlist → StilFile → FiveFiles
as_written files n file =
    record { net = canonical n; scan = files.scan; stil = stil_text file; certificate = files.certificate; report = files.report }

module _ (n : Netlist) (holds : Holds) (limit : ℕ) (certified : List (Fault × Evidence)) where
  -- The evidence stands in the certificate beside a fault of this one's class, and is a tree that fits it, or steps that refute it.
  abbrev pub IsCertified : Fault → Evidence → Type 0
  IsCertified f e = (representative : Fault) × IsEquivalent n f representative × Contains certified (representative, e) × Shows representative n holds e

  -- The evidence for what is said of a fault that isn't detected. Redundant: a closed tree of its class, or a refutation. Aborted: a tree with an open
  -- end and exactly as many closed ends as the backtrack limit. Unasked: none.
  abbrev pub HasEvidence : Fault → Outcome → Type 0
  HasEvidence f (Detected place cycle) = ⊤
  HasEvidence f Redundant = (e : Evidence) × IsCertified f e × (open_ends e ≡ 0)
  HasEvidence f Aborted = (tree : List Node) × IsCertified f (Tree tree) × (closed_count tree ≡ limit) × (1 ≤ open_count tree)
  HasEvidence f Unasked = ⊤

-- The first file, read, is the netlist, the second, read as a scanned one, is the netlist with scan inserted, and the third stands for the test: the
-- statement holds of these. The report is one of its form, the certificate is that of some evidence, and among it is that for each line. Where the
-- report says how often faults are detected, so many of the patterns do.
pub record RunTheorem (n : Netlist) (holds : Holds) (chains : List (List ℕ)) (limit : ℕ) (file : StilFile) (files : FiveFiles) : Type 0 where
  pub said : Report
  pub certified : List (Fault × Evidence)
  pub statement : Statement n holds chains (as_written files n file)
  pub scanned_is : statement.scanned ≡ scanned_of n chains
  pub test_is : statement.test ≡ file
  pub lines_are : statement.lines ≡ said.lines
  pub net_is : IsRead Design files.net (Ok n)
  pub scan_is : IsRead Scanned files.scan (Ok (scanned_of n chains))
  pub stil_is : StandsFor files.stil file
  pub certificate_is : IsCertificate n files.certificate certified
  pub report_is : files.report ≡ report_text said
  pub evidence : (place : ℕ) (f : Fault) (line : Line) → slice_get (universe_of n) place ≡ Some f → slice_get said.lines place ≡ Some line
      → HasEvidence n holds limit certified f line.outcome
  pub times : HasTimes n statement.patterns said.times
