-- What a run is asked for, and what it makes of a design.
use Rattle.std.specs.Prelude.{ℕ, ◌≡◌, ◌<◌, ◌≤◌, ◌+◌, ◌*◌, ◌⊎◌, ◌≢◌, ◌==◌, Bool, true, false, cond, IsFalse, List, [], ◌∷◌, length, Option, Some, None}
use Rattle.std.specs.List.{AllPairs, slice_get}
use Rattle.statement.specs.declared.lines.Fault.{Fault}
use Rattle.statement.specs.declared.outcomes.Outcome.TheVariants.{Unasked}
use Rattle.statement.specs.Netlists.{Netlist}
use Rattle.statement.specs.Patterns.{Holds, Pattern}
use Rattle.statement.specs.Benches.{canonical}
use Rattle.statement.specs.Faults.{universe_of}
use Rattle.statement.specs.Reports.{Line}
use Rattle.statement.specs.Stils.{StilFile}
use Rattle.evidence.specs.declared.kinds.Evidence.{Evidence}
use Rattle.detections.specs.Times.{IsNeededFor}
use Rattle.run_files.specs.declared.files.RunFiles.{RunFiles}
use Rattle.run_files.specs.declared.asked.RunPlan.{RunPlan}
use Rattle.run_files.specs.declared.asked.Wanted.{Wanted}
use Rattle.run_report.specs.Heads.{count_of, one_if_detected}
use Rattle.run_report.specs.Outcomes.{IsDetected}
use Rattle.good_files.specs.GoodFiles.{AreGoodFiles, Contents, chains_said, limit_said}
use Rattle.statement.specs.Statement.{FiveFiles, Statement}
use Rattle.good_files.specs.RunTheorem.{RunTheorem}
use Rattle.good_files.specs.TreeTheorem.{TreeTheorem}
use Rattle.good_files.specs.ScanOff.{design_chains}

-- ---- what a run is asked for

-- The inputs that are held, at most so many chains, so many closed ends for a search, and whether evidence may be a refutation.
pub record Asked : Type 0 where
  pub holds : Holds
  pub chains : ℕ
  pub limit : ℕ
  pub refutes : Bool
  -- for each fault of the universe, whether it is asked for
  pub faults : List Bool
  -- where so many in a hundred of these are detected, the run may stop
  pub percent : Option ℕ
  -- the patterns that it begins with
  pub first : List Pattern
  -- by how many patterns each fault is to be detected
  pub times : ℕ

-- what these arguments of a run ask for
abbrev pub asked_by : RunPlan → Wanted → Holds → Bool → Asked
asked_by plan wanted holds refutes = record {
  holds = holds;
  chains = plan.chains;
  limit = plan.limit;
  refutes = refutes;
  faults = wanted.faults.items;
  percent = plan.percent;
  first = wanted.first.items;
  times = plan.times;
}

abbrev pub count_true : List Bool → ℕ
count_true [] = 0
count_true (b ∷ bs) = cond b 1 0 + count_true bs

-- so many in a hundred of the faults that are asked for are detected
abbrev pub IsCovered : Option ℕ → List Bool → List Line → Type 0
IsCovered None asked lines = ⊥
IsCovered (Some percent) asked lines = percent * count_true asked ≤ 100 * count_of one_if_detected lines

-- A line says that its fault wasn't asked for where it wasn't, and elsewhere only where enough are detected.
pub record AreAsked (a : Asked) (lines : List Line) : Type 0 where
  pub others : (place : ℕ) (line : Line) → slice_get lines place ≡ Some line → slice_get a.faults place ≡ Some false → line.outcome ≡ Unasked
  pub all : IsCovered a.percent a.faults lines
      ⊎ ((place : ℕ) (line : Line) → slice_get lines place ≡ Some line → line.outcome ≡ Unasked → slice_get a.faults place ≡ Some false)

-- what the first patterns detect of what is asked for is detected
abbrev pub FirstKept : Netlist → Asked → List Line → Type 0
FirstKept n a lines =
    (place : ℕ) (f : Fault) (line : Line) → slice_get (universe_of n) place ≡ Some f → slice_get lines place ≡ Some line → slice_get a.faults place ≡ Some true
    → IsDetected n a.first f → one_if_detected line.outcome ≡ 1

-- to how many the report counts detections: they aren't counted where one is enough
abbrev pub counted_to : ℕ → ℕ
counted_to times = cond (times == 1) 0 times

-- ---- what it makes

abbrev pub files_of : RunFiles → FiveFiles
files_of f = record { net = f.net.items; scan = f.scan.items; stil = f.stil.items; certificate = f.certificate.items; report = f.report.items }

-- what they stand for, by this netlist, STIL file and evidence; the report is at hand
abbrev pub contents_of : Netlist → StilFile → List (Fault × Evidence) → RunFiles → Contents
contents_of n file evidence f = record { netlist = n; scan = f.scan.items; file = file; evidence = evidence; said = f.said }

-- The five texts tell the truth by the statement. They are good files, the netlist's in its canonical text, for these held inputs, chains and limit;
-- each pattern of their test is among the last so many that detect some class as are asked for. Where that is more than one, no two patterns are equal,
-- and the report says how many detect each fault. Where nothing is refuted, their certificate has trees alone.
-- They say of no fault that it wasn't asked for but of those that weren't, unless enough are detected; and what the first patterns detect is detected.
pub record IsRun (n : Netlist) (a : Asked) (made : RunFiles) : Type 0 where
  pub file : StilFile
  pub evidence : List (Fault × Evidence)
  pub net_is : made.net.items ≡ canonical n
  pub good : AreGoodFiles (files_of made) (contents_of n file evidence made)
  pub holds_are : good.tested.holds ≡ a.holds
  pub chains_are : design_chains n (chains_said made.said) ≡ design_chains n a.chains
  pub limit_is : limit_said made.said ≡ a.limit
  pub needed : (place : ℕ) → place < length good.tested.patterns → IsNeededFor n good.tested.patterns a.times good.tested.classes.representatives place
  pub differ : 1 < a.times → AllPairs (λ (p q : Pattern). p ≢ q) good.tested.patterns
  pub counted : made.said.times.most ≡ counted_to a.times
  pub asked : AreAsked a made.said.lines
  pub first : FirstKept n a made.said.lines
  pub statement : Statement n a.holds (design_chains n a.chains) (files_of made)
  pub truth : RunTheorem n a.holds (design_chains n a.chains) a.limit file (files_of made)
  pub trees : IsFalse a.refutes → TreeTheorem n a.holds (design_chains n a.chains) a.limit file (files_of made)
