-- What `diagnose` owes for the same texts is alike.
use Rattle.std.proofs.Common.{ℕ, [], ◌∷◌, Option, refl}
use Rattle.bench_text.specs.declared.refusal.Names.TheVariants.{Design}
use Rattle.stil_read.specs.Laws.{AtMostOne}
use Rattle.stil_read.specs.Reading.{StandsFor}
use Rattle.stil_vectors.specs.Fitting.{FitsNetlist}
use Rattle.good_files.specs.ScanOff.{design_chains}
use Rattle.scan_insert.specs.Scanned.{scanned_of}
use Rattle.diagnose.specs.LogLaws.{OneLog}
use Rattle.diagnose.specs.Reading.{IsLogOf}
use Rattle.commands.specs.Due.{Deliver}
use Rattle.commands.specs.Laws.{IsExclusive}
use Rattle.commands.specs.declared.ending.Finding.TheVariants.{Fine}
use Rattle.command_steps.specs.Steps.{netlist, test, value}
use Rattle.command_steps.specs.declared.refusal.Refusal.TheVariants.{NotLog, NotStil, StilDoesNotFit}
use Rattle.command_steps.proofs.Single.{given, netlist_single, test_single, then_one, value_single}
use Rattle.diagnose_command.specs.Diagnoses.{diagnose_due}
use Rattle.diagnose_command.specs.inner.Cases as cases

pub diagnose_exclusive : AtMostOne → OneLog → (chains : ℕ) (rank : Option ℕ) → IsExclusive (diagnose_due chains rank)
diagnose_exclusive one once chains rank [] c d p q = absurd p
diagnose_exclusive one once chains rank (net ∷ []) c d p q = absurd p
diagnose_exclusive one once chains rank (net ∷ stil ∷ []) c d p q = absurd p
diagnose_exclusive one once chains rank (net ∷ stil ∷ log ∷ []) c d p q =
    then_one (netlist Design net) (cases.test_due chains rank stil log) (netlist_single Design net)
    (λ n. then_one (value StandsFor NotStil stil) (cases.log_due chains rank log n) (value_single StandsFor NotStil stil (one stil))
    (λ file. then_one (value IsLogOf NotLog log) (cases.case_due chains rank n file) (value_single IsLogOf NotLog log (once log))
    (λ failures. let fits = FitsNetlist file (scanned_of n (design_chains n chains)) in
    then_one (test fits StilDoesNotFit) (λ _. cases.diagnosis_due chains rank n file failures) (test_single fits StilDoesNotFit)
    (λ u x y a b. given x y (Deliver [] a.0 Fine) (Deliver [] b.0 Fine) a.2 b.2 refl)))) c d p q
diagnose_exclusive one once chains rank (net ∷ stil ∷ log ∷ more ∷ others) c d p q = absurd p
