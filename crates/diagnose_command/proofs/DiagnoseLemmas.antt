-- What `diagnose` reads, and what it says.
use Rattle.std.proofs.Common.{◌≡◌, ◌∙◌, ◌<◌, inl, inr, ℕ, List, [], ◌∷◌, Result, Ok, Err, Vec, refl, subst, ap, arith, length, get_or, Option}
use Rattle.std.specs.List.{All}
use Rattle.std.specs.declared.alloc.Global.{Global}
use Rattle.std.proofs.lemmas.Option.{slice_get-get_or}
use Rattle.statement.specs.Benches.{Text}
use Rattle.statement.specs.Netlists.{Netlist}
use Rattle.statement.specs.declared.lines.Fault.{Fault}
use Rattle.bench_text.specs.declared.refusal.Names.TheVariants.{Design}
use Rattle.statement.specs.Faults.{universe_of}
use Rattle.fault_universe.proofs.Elements.{contains_at, slice_get_below}
use Rattle.fault_collapse.specs.Numbers.{Classes}
use Rattle.fault_collapse.specs.Classes.{AreClasses}
use Rattle.netlist.specs.Conditions.{IsSound}
use Rattle.scan_insert.specs.Scanned.{AreChainsOf, Insertion, insertion_of}
use Rattle.good_files.specs.ScanOff.{design_chains}
use Rattle.statement.specs.Runs.{Cycle}
use Rattle.stil_read.specs.Reading.{StandsFor}
use Rattle.stil_vectors.specs.Fitting.{FitsNetlist}
use Rattle.statement.specs.Stils.{StilFile}
use Rattle.diagnose.specs.Failures.{Failing}
use Rattle.diagnose.specs.Reading.{IsLogOf}
use Rattle.diagnose.specs.declared.failures.FailLog.{FailLog}
use Rattle.diagnose.specs.Candidates.{AreCandidates, IsScannedDesign}
use Rattle.commands.specs.Names.{texts_of}
use Rattle.commands.specs.Worked.{IsWorked}
use Rattle.commands.specs.declared.product.Product.{Product}
use Rattle.commands.specs.declared.product.Stop.{Stop}
use Rattle.commands.specs.declared.product.Stop.TheVariants as stop
use Rattle.diagnose_command.specs.Diagnoses.{diagnose_due}
use Rattle.command_steps.specs.Steps.{netlist, value}
use Rattle.diagnose_command.specs.declared.cases.Case.{Case}
use Rattle.diagnose_command.specs.declared.cases.ScannedCase.{ScannedCase}
use Rattle.command_steps.specs.declared.refusal.Refusal.{Refusal}
use Rattle.command_steps.specs.declared.refusal.Refusal.TheVariants.{NotLog, NotStil}
use Rattle.command_steps.specs.Answers.{Answers}
use Rattle.diagnose_command.specs.inner.Cases.{IsCase, IsFitted, IsScannedCase, ReadsCase, case_due, log_due, test_due}
use Rattle.command_steps.proofs.StepLemmas.{then_worked}

-- ---- what is read

module _ (chains : ℕ) (rank : Option ℕ) (net stil log : Text) where
  pub no_design : (s : Stop Refusal) → Answers (netlist Design net) (Err s) → ReadsCase chains rank net stil log (Err s)
  no_design (stop.Refused r) is = inr (r, is, refl)
  no_design stop.NoMemory is = tt

  pub no_test : (n : Netlist) (s : Stop Refusal) → netlist Design net (Ok n) → Answers (value StandsFor NotStil stil) (Err s) → ReadsCase chains rank net stil log (Err s)
  no_test n (stop.Refused r) read is = inl (n, read, inr (r, is, refl))
  no_test n stop.NoMemory read is = tt

  pub no_log : (n : Netlist) (file : StilFile) (s : Stop Refusal) → netlist Design net (Ok n) → value StandsFor NotStil stil (Ok file) → Answers (value IsLogOf NotLog log) (Err s)
      → ReadsCase chains rank net stil log (Err s)
  no_log n file (stop.Refused r) read test is = inl (n, read, inl (file, test, inr (r, is, refl)))
  no_log n file stop.NoMemory read test is = tt

  diagnosed : (n : Netlist) (file : StilFile) (told : FailLog) (count : ℕ) (r : Result Product (Stop Refusal)) → IsCase net stil log n file told
      → IsWorked (case_due chains rank n file told) count r → IsWorked (diagnose_due chains rank (net ∷ stil ∷ log ∷ [])) count r
  diagnosed n file told count r c w =
      then_worked (netlist Design net) (test_due chains rank stil log) count n r c.net_is
      (then_worked (value StandsFor NotStil stil) (log_due chains rank log n) count file r c.file_is
      (then_worked (value IsLogOf NotLog log) (case_due chains rank n file) count told r c.log_is w))

  undiagnosed : (count : ℕ) (s : Stop Refusal) → ReadsCase chains rank net stil log (Err s) → IsWorked (diagnose_due chains rank (net ∷ stil ∷ log ∷ [])) count (Err s)
  undiagnosed count (stop.Refused r) is = is
  undiagnosed count stop.NoMemory is = tt

-- three texts, one behind the other
three_texts : (vs : List (Vec ℕ Global)) (u v w d e f : Vec ℕ Global) → length vs ≡ 3 → u ≡ get_or vs 0 d → v ≡ get_or vs 1 e → w ≡ get_or vs 2 f
    → u.items ∷ v.items ∷ w.items ∷ [] ≡ texts_of vs
three_texts [] u v w d e f count p q r = absurd (omega arith)
three_texts (x ∷ []) u v w d e f count p q r = absurd (omega arith)
three_texts (x ∷ y ∷ []) u v w d e f count p q r = absurd (omega arith)
three_texts (x ∷ y ∷ z ∷ []) u v w d e f count p q r =
    ap (λ (a : Vec ℕ Global). a.items ∷ v.items ∷ w.items ∷ []) p ∙ (ap (λ (a : Vec ℕ Global). x.items ∷ a.items ∷ w.items ∷ []) q ∙ ap (λ (a : Vec ℕ Global). x.items ∷ y.items ∷ a.items ∷ []) r)
three_texts (x ∷ y ∷ z ∷ o ∷ os) u v w d e f count p q r = absurd (omega arith)

module _ (chains : ℕ) (rank : Option ℕ) (vs : List (Vec ℕ Global)) (u v w d e f : Vec ℕ Global) (count : length vs ≡ 3) (first : u ≡ get_or vs 0 d) (second : v ≡ get_or vs 1 e) (third : w ≡ get_or vs 2 f)
    (net stil log : Text) (net_is : net ≡ u.items) (stil_is : stil ≡ v.items) (log_is : log ≡ w.items) where
  here : net ∷ stil ∷ log ∷ [] ≡ texts_of vs
  here =
      ap (λ (t : Text). t ∷ stil ∷ log ∷ []) net_is ∙ (ap (λ (t : Text). u.items ∷ t ∷ log ∷ []) stil_is ∙ (ap (λ (t : Text). u.items ∷ v.items ∷ t ∷ []) log_is
      ∙ three_texts vs u v w d e f count first second third))

  pub case_worked : (c : Case) (k : ℕ) (r : Result Product (Stop Refusal)) → ReadsCase chains rank net stil log (Ok c) → IsWorked (case_due chains rank c.netlist c.file c.log) k r
      → IsWorked (diagnose_due chains rank (texts_of vs)) k r
  case_worked c k r read worked =
      subst (λ (ts : List Text). IsWorked (diagnose_due chains rank ts) k r) here (diagnosed chains rank net stil log c.netlist c.file c.log k r read worked)

  pub case_stopped : (k : ℕ) (s : Stop Refusal) → ReadsCase chains rank net stil log (Err s) → IsWorked (diagnose_due chains rank (texts_of vs)) k (Err s)
  case_stopped k s read = subst (λ (ts : List Text). IsWorked (diagnose_due chains rank ts) k (Err s)) here (undiagnosed chains rank net stil log k s read)

-- ---- a scanned case

module _ (c : ScannedCase) (h : IsScannedCase c) where
  pub scanned_chains : AreChainsOf c.case.now.netlist (design_chains c.case.now.netlist c.chains)
  scanned_chains = record { asked = c.chains; some = h.some; are = refl }

  pub scanned_design : IsSound c.case.now.netlist → (faults : List Fault) (classes : Classes) → faults ≡ universe_of c.case.now.netlist → AreClasses c.case.now.netlist classes → IsScannedDesign c.scanned.now faults classes
  scanned_design sound faults classes all are = record {
    design = c.case.now.netlist;
    chains = design_chains c.case.now.netlist c.chains;
    sound = sound;
    is_design = h.design;
    are_chains = scanned_chains;
    is_scanned = h.is_scanned;
    are_faults = all;
    are_classes = are;
  }

-- ---- what is said

-- candidates of the scanned design and its faults, as these are
pub candidates_at : (n : Netlist) (chains : List (List ℕ)) (scanned : Insertion) (faults : List Fault) (cycles : List Cycle) (log : List Failing) (found : List ℕ)
    → scanned ≡ insertion_of n chains → faults ≡ universe_of n → AreCandidates scanned faults cycles log found → AreCandidates (insertion_of n chains) (universe_of n) cycles log found
candidates_at n chains scanned faults cycles log found is also are =
    subst (λ (s : Insertion). AreCandidates s (universe_of n) cycles log found) is (subst (λ (fs : List Fault). AreCandidates scanned fs cycles log found) also are)

-- what is found are places of the list of faults
pub places_within : (n : Netlist) (chains : List (List ℕ)) (cycles : List Cycle) (log : List Failing) (found : List ℕ)
    → AreCandidates (insertion_of n chains) (universe_of n) cycles log found → All (λ i. i < length (universe_of n)) found
places_within n chains cycles log found are k d l =
    let i = get_or found k d in
    let candidate = (are.exactly i).0 (contains_at found k i (slice_get-get_or found k d l)) in
    slice_get_below (universe_of n) i candidate.fault candidate.is_fault

-- a scanned case whose file fits the scanned netlist, however that is lent
pub fitted_by : (c : ScannedCase) → IsScannedCase c → (m : Netlist) → m ≡ c.scanned.now.netlist → FitsNetlist c.case.now.file m → IsFitted c
fitted_by c scanned m is fits = record { scanned = scanned; fits = subst (λ (n : Netlist). FitsNetlist c.case.now.file n) is fits }
