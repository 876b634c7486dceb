-- What five files of a test with unknown inputs say of the chip.
use Rattle.std.specs.Prelude.{ℕ, ◌≡◌, ⊤, List, length, Some, None, Ok}
use Rattle.std.specs.List.{All, slice_get}
use Rattle.statement.specs.declared.lines.Fault.{Fault}
use Rattle.statement.specs.Benches.{canonical}
use Rattle.statement.specs.Faults.{universe_of}
use Rattle.statement.specs.Netlists.{Netlist}
use Rattle.statement.specs.Patterns.{Holds, Obeys}
use Rattle.statement.specs.Runs.{Cycle}
use Rattle.statement.specs.Statement.{BehavesWithScanOff, FiveFiles, IsNamed, IsSite}
use Rattle.statement.specs.Stils.{StilFile}
use Rattle.statement.specs.Tests.{vectors_in}
use Rattle.bench_text.specs.Reading.{IsRead}
use Rattle.bench_text.specs.declared.refusal.Names.TheVariants.{Design}
use Rattle.scan_insert.specs.Scanned.{scanned_of}
use Rattle.scan_play.specs.Cycles.{IsCycleOf}
use Rattle.stil_read.specs.Reading.{StandsFor}
use Rattle.good_files.specs.GoodFiles.{AreHeldBy}
use Rattle.known_tests.specs.Fitting.{FitsKnown}
use Rattle.unknown_inputs.specs.Opened.{opened}
use Rattle.unknown_inputs.specs.Unknowns.{FailsWhateverAt, IsUntold, PassesWhatever, Unknowns, holds_at_zero, known_part}
use Rattle.unknown_report.specs.declared.claims.Claim.{Claim}
use Rattle.unknown_report.specs.declared.claims.Claim.TheVariants.{Detected, Redundant, Undetected, Unknown}
use Rattle.unknown_report.specs.declared.reports.UnknownReport.{UnknownReport}
use Rattle.unknown_report.specs.Claims.{claim_lines, counts_of}
use Rattle.unknown_report.specs.Reports.{unknown_report_text}
use Rattle.good_unknown_files.specs.GoodUnknownFiles.{unknown_names}

module _ (chip : Netlist) (unknown : Unknowns) (holds : Holds) where
  -- No test of known bits under the held inputs that the good chip passes whatever the unknown inputs have fails with the fault whatever they have.
  abbrev pub IsToldByNoTest : Fault → Type 0
  IsToldByNoTest moved =
      (cycles : List Cycle) (c o : ℕ) → All (IsCycleOf (opened chip unknown)) cycles → All (λ (cycle : Cycle). Obeys (known_part unknown holds) cycle.drive) cycles
      → PassesWhatever chip unknown None cycles → ¬ FailsWhateverAt chip unknown (Some moved) cycles c o

  -- What is claimed of a fault comes true on the tester. Detected: whatever the unknown inputs have, the test fails on the chip with the fault in this cycle
  -- at this output. Redundant: while they have 0 nothing tells the fault, so no test of known bits tells it whatever they have. Undetected: whatever they
  -- have, the test passes. Unknown: nothing.
  abbrev pub ClaimComesTrue : List Cycle → Fault → Claim → Type 0
  ClaimComesTrue cycles moved (Detected cycle output) = FailsWhateverAt chip unknown (Some moved) cycles cycle output
  ClaimComesTrue cycles moved Redundant = IsUntold chip (holds_at_zero unknown holds) moved × IsToldByNoTest moved
  ClaimComesTrue cycles moved Undetected = PassesWhatever chip unknown (Some moved) cycles
  ClaimComesTrue cycles moved Unknown = ⊤

-- The first file, read, is the netlist; the second is the text of the scanned one, which behaves as it does with scan off; the third stands for a test that
-- sets the known inputs alone, the held ones with their bits, and passes on the good chip whatever the unknown inputs have. The report names the
-- unknown and the held inputs and has a line for each fault of the netlist, in order, with a claim that comes true; its counts are those of the claims.
pub record UnknownTheorem (n : Netlist) (unknown : Unknowns) (holds : Holds) (chains : List (List ℕ)) (file : StilFile) (files : FiveFiles) : Type 0 where
  pub said : UnknownReport
  pub claims : List Claim
  pub net_named : IsNamed n
  pub scan_named : IsNamed (scanned_of n chains)
  pub net_is : IsRead Design files.net (Ok n)
  pub scan_is : files.scan ≡ canonical (scanned_of n chains)
  pub stil_is : StandsFor files.stil file
  pub report_is : files.report ≡ unknown_report_text said
  pub unknown_are : said.unknown ≡ unknown_names n unknown
  pub holds_are : AreHeldBy n said.holds holds
  pub behaves : BehavesWithScanOff n (scanned_of n chains) chains
  pub fits : FitsKnown file (scanned_of n chains) unknown
  pub driven : All (λ (cycle : Cycle). Obeys (known_part unknown holds) cycle.drive) (vectors_in file)
  pub passes : PassesWhatever (scanned_of n chains) unknown None (vectors_in file)
  pub lines_are : said.lines ≡ claim_lines n (scanned_of n chains) (universe_of n) claims
  pub counted : length claims ≡ length (universe_of n)
  pub comes_true : (place : ℕ) (f : Fault) (claim : Claim) → slice_get (universe_of n) place ≡ Some f → slice_get claims place ≡ Some claim
      → (moved : Fault) × IsSite n (scanned_of n chains) f.line moved.line × (moved.value ≡ f.value)
      × ClaimComesTrue (scanned_of n chains) unknown holds (vectors_in file) moved claim
  pub counts_are : said.counts ≡ counts_of claims
