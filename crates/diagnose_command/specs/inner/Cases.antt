-- What is diagnosed: a design, a test, and what failed.
use Rattle.std.specs.Prelude.{ℕ, ◌≡◌, ◌≤◌, ⊤, [], ◌∷◌, Option, Result, Ok, Err}
use Rattle.statement.specs.Benches.{Text}
use Rattle.bench_text.specs.declared.refusal.Names.TheVariants.{Design}
use Rattle.statement.specs.Netlists.{Netlist}
use Rattle.netlist.specs.Designs.{IsDesign}
use Rattle.scan_insert.specs.Scanned.{insertion_of, scanned_of}
use Rattle.good_files.specs.ScanOff.{design_chains}
use Rattle.stil_read.specs.Reading.{StandsFor}
use Rattle.statement.specs.Tests.{vectors_in}
use Rattle.stil_vectors.specs.Fitting.{FitsNetlist}
use Rattle.statement.specs.Stils.{StilFile}
use Rattle.diagnose.specs.Reading.{IsLogOf}
use Rattle.diagnose.specs.declared.failures.FailLog.{FailLog}
use Rattle.commands.specs.Due.{Due, Deliver, Refuse}
use Rattle.commands.specs.declared.ending.Finding.TheVariants.{Fine}
use Rattle.commands.specs.declared.product.Stop.{Stop}
use Rattle.commands.specs.declared.product.Stop.TheVariants as stop
use Rattle.diagnose_command.specs.Diagnoses.{diagnose_due, IsSaidOf}
use Rattle.command_steps.specs.Steps.{◌>>=◌, netlist, test, value}
use Rattle.diagnose_command.specs.declared.cases.Case.{Case}
use Rattle.diagnose_command.specs.declared.cases.ScannedCase.{ScannedCase}
use Rattle.command_steps.specs.declared.refusal.Refusal.{Refusal}
use Rattle.command_steps.specs.declared.refusal.Refusal.TheVariants.{NotLog, NotStil, StilDoesNotFit}

-- the design, the file and the log that the texts give
pub record IsCase (net stil log : Text) (n : Netlist) (file : StilFile) (told : FailLog) : Type 0 where
  pub net_is : netlist Design net (Ok n)
  pub file_is : value StandsFor NotStil stil (Ok file)
  pub log_is : value IsLogOf NotLog log (Ok told)
  pub design : IsDesign n

abbrev pub ReadsCase : ℕ → Option ℕ → Text → Text → Text → Result Case (Stop Refusal) → Type 0
ReadsCase chains rank net stil log (Ok c) = IsCase net stil log c.netlist c.file c.log
ReadsCase chains rank net stil log (Err (stop.Refused r)) = diagnose_due chains rank (net ∷ stil ∷ log ∷ []) (Refuse r)
ReadsCase chains rank net stil log (Err stop.NoMemory) = ⊤

-- its design is scanned, in at most so many chains
pub record IsScannedCase (c : ScannedCase) : Type 0 where
  pub design : IsDesign c.case.now.netlist
  pub some : 1 ≤ c.chains
  pub is_scanned : c.scanned.now ≡ insertion_of c.case.now.netlist (design_chains c.case.now.netlist c.chains)

-- and its file fits the scanned netlist
pub record IsFitted (c : ScannedCase) : Type 0 where
  pub scanned : IsScannedCase c
  pub fits : FitsNetlist c.case.now.file c.scanned.now.netlist

-- what is due of a design, a file that fits its scanned netlist, and a log
abbrev pub diagnosis_due : ℕ → Option ℕ → Netlist → StilFile → FailLog → Due Refusal → Type 0
diagnosis_due chains rank n file log d =
    (text : Text) × IsSaidOf rank n (design_chains n chains) (vectors_in file) log text × (d ≡ Deliver [] text Fine)

-- the same of a file that may not fit
abbrev pub case_due : ℕ → Option ℕ → Netlist → StilFile → FailLog → Due Refusal → Type 0
case_due chains rank n file log = test (FitsNetlist file (scanned_of n (design_chains n chains))) StilDoesNotFit >>= λ _. diagnosis_due chains rank n file log

-- the same of the bytes of a log, and of those of a file
abbrev pub log_due : ℕ → Option ℕ → Text → Netlist → StilFile → Due Refusal → Type 0
log_due chains rank log n file = value IsLogOf NotLog log >>= λ told. case_due chains rank n file told

abbrev pub test_due : ℕ → Option ℕ → Text → Text → Netlist → Due Refusal → Type 0
test_due chains rank stil log n = value StandsFor NotStil stil >>= λ file. log_due chains rank log n file
