-- What `diagnose` says of a design, the cycles of a STIL file and a tester's log, which may be cut.
use Rattle.std.specs.Prelude.{ℕ, ◌≡◌, ◌++◌, List, [], Option, Some, None, codes, decimal, length, ◌∷◌}
use Rattle.std.specs.List.{flat_map, slice_get}
use Rattle.statement.specs.Benches.{Text}
use Rattle.statement.specs.declared.lines.Fault.{Fault}
use Rattle.statement.specs.Netlists.{Netlist}
use Rattle.statement.specs.Faults.{fault_text, universe_of}
use Rattle.scan_insert.specs.Scanned.{insertion_of, scanned_of}
use Rattle.statement.specs.Runs.{Cycle}
use Rattle.diagnose.specs.declared.failures.FailLog.{FailLog}
use Rattle.diagnose.specs.Candidates.{AreCandidates}
use Rattle.diagnose.specs.Explaining.{told_cycles}
use Rattle.diagnose.specs.Laws.{TellTheTruth}
use Rattle.diagnose.specs.Ranking.{IsRanking}
use Rattle.diagnose.specs.declared.ranks.Ranked.{Ranked}
use Rattle.bench_text.specs.declared.refusal.Names.TheVariants.{Design}
use Rattle.diagnose.specs.Reading.{IsLogOf}
use Rattle.commands.specs.Due.{Due, Deliver}
use Rattle.commands.specs.declared.ending.Finding.TheVariants.{Fine}
use Rattle.statement.specs.Tests.{vectors_in}
use Rattle.stil_read.specs.Reading.{StandsFor}
use Rattle.stil_vectors.specs.Fitting.{FitsNetlist}
use Rattle.good_files.specs.ScanOff.{design_chains}
use Rattle.command_steps.specs.Steps.{◌>>=◌, netlist, value, test}
use Rattle.command_steps.specs.declared.refusal.Refusal.{Refusal}
use Rattle.command_steps.specs.declared.refusal.Refusal.TheVariants.{NotLog, NotStil, StilDoesNotFit}

-- `candidates 2`
abbrev pub candidates_line : ℕ → Text
candidates_line count = codes "candidates " ++ (decimal count ++ codes "\n")

-- `stem a/1`
abbrev pub suspect_line : Netlist → Option Fault → Text
suspect_line n None = []
suspect_line n (Some fault) = fault_text n fault ++ codes "\n"

-- a line for the fault at each of these places of the list of faults
abbrev pub suspect_lines : Netlist → List ℕ → Text
suspect_lines n places = flat_map (λ i. suspect_line n (slice_get (universe_of n) i)) places

-- How many faults of the design explain the log over the cycles of which it tells, and then these, in order; and what that means on the tester.
pub record IsDiagnosis (n : Netlist) (chains : List (List ℕ)) (cycles : List Cycle) (log : FailLog) (text : Text) : Type 0 where
  pub found : List ℕ
  pub exactly : AreCandidates (insertion_of n chains) (universe_of n) (told_cycles log.end cycles) log.failures found
  pub holds : TellTheTruth n chains cycles log found
  pub text_is : text ≡ candidates_line (length found) ++ suspect_lines n found

-- `nearest 2`
abbrev pub nearest_line : ℕ → Text
nearest_line count = codes "nearest " ++ (decimal count ++ codes "\n")

-- `stem a/1 missing 1 extra 0`
abbrev pub ranked_line : Netlist → Ranked → Option Fault → Text
ranked_line n r None = []
ranked_line n r (Some fault) = fault_text n fault ++ (codes " missing " ++ (decimal r.missing ++ (codes " extra " ++ (decimal r.extra ++ codes "\n"))))

-- a line for each of these
abbrev pub ranked_lines : Netlist → List Ranked → Text
ranked_lines n ranking = flat_map (λ (r : Ranked). ranked_line n r (slice_get (universe_of n) r.place)) ranking

-- How many faults of the design are listed, and then these, those that come nearest to the log first.
pub record IsNearest (count : ℕ) (n : Netlist) (chains : List (List ℕ)) (cycles : List Cycle) (log : FailLog) (text : Text) : Type 0 where
  pub ranking : List Ranked
  pub is_ranking : IsRanking (insertion_of n chains) (universe_of n) (told_cycles log.end cycles) log.failures count ranking
  pub text_is : text ≡ nearest_line (length ranking) ++ ranked_lines n ranking

-- the faults that explain the log, or so many that come nearest to it
abbrev pub IsSaidOf : Option ℕ → Netlist → List (List ℕ) → List Cycle → FailLog → Text → Type 0
IsSaidOf None n chains cycles log text = IsDiagnosis n chains cycles log text
IsSaidOf (Some count) n chains cycles log text = IsNearest count n chains cycles log text

-- the faults that explain what failed, or so many that come nearest to it; how many workers look for them makes no difference
abbrev pub diagnose_due : ℕ → Option ℕ → List Text → Due Refusal → Type 0
diagnose_due chains rank (net ∷ stil ∷ log ∷ []) =
    netlist Design net >>= λ n. value StandsFor NotStil stil >>= λ file. value IsLogOf NotLog log >>= λ told.
    test (FitsNetlist file (scanned_of n (design_chains n chains))) StilDoesNotFit >>= λ _ d.
    (text : Text) × IsSaidOf rank n (design_chains n chains) (vectors_in file) told text × (d ≡ Deliver [] text Fine)
diagnose_due chains rank texts = λ d. ⊥
