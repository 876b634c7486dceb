-- The laws of good files and of the check, each the contract of a function of its name.
use Rattle.std.specs.Prelude.{ℕ, ◌≡◌, ◌≢◌, ◌<◌, ◌↔◌, ◌⊎◌, ◌++◌, ⊤, List, Result, Some, Ok, Err, codes, length}
use Rattle.std.specs.List.{All, Contains, slice_get}
use Rattle.statement.specs.declared.lines.Fault.{Fault}
use Rattle.statement.specs.declared.outcomes.Outcome.TheVariants.{Unasked}
use Rattle.statement.specs.Reports.{Line}
use Rattle.netlist.specs.Conditions.{IsSound}
use Rattle.netlist.specs.Designs.{IsDesign}
use Rattle.statement.specs.Netlists.{Netlist}
use Rattle.statement.specs.Patterns.{Holds}
use Rattle.statement.specs.Stils.{StilFile}
use Rattle.statement.specs.Faults.{universe_of}
use Rattle.fault_collapse.specs.Classes.{Represents}
use Rattle.word_sim.specs.Hits.{IsNeverDetected}
use Rattle.good_files.specs.declared.answers.Checked.{Checked}
use Rattle.good_files.specs.declared.answers.Checked.TheVariants.{Faults, False}
use Rattle.good_files.specs.declared.answers.CheckFault.{CheckFault}
use Rattle.good_files.specs.declared.answers.CheckFault.TheVariants.{NoMemory}
use Rattle.good_files.specs.GoodFiles.{AreGoodFiles, Contents, StandFor, chains_in, faults_in, limit_said}
use Rattle.statement.specs.Statement.{FiveFiles}
use Rattle.good_files.specs.RunTheorem.{RunTheorem}
use Rattle.good_files.specs.TreeTheorem.{TreeTheorem}
use Rattle.good_files.specs.Checks.{ArePassed, IsAnswer, IsChecked, PassesWhereTrue}

-- Good files tell the truth.
abbrev pub GoodFilesTellTheTruth : Type 0
GoodFilesTellTheTruth =
    (files : FiveFiles) (c : Contents) → IsSound c.netlist → IsDesign c.netlist → (good : AreGoodFiles files c)
    → RunTheorem c.netlist good.tested.holds (chains_in c) (limit_said c.said) c.file files

-- A certificate that begins as those of trees did has trees alone, and its files all that is said of these.
abbrev pub TreesAsBefore : Type 0
TreesAsBefore =
    (n : Netlist) (holds : Holds) (chains : List (List ℕ)) (limit : ℕ) (file : StilFile) (files : FiveFiles) (rest : List ℕ)
    → RunTheorem n holds chains limit file files → files.certificate ≡ codes "atpg certificate 1\n" ++ rest → TreeTheorem n holds chains limit file files

-- the fault of the line was asked for
abbrev pub IsAsked : Line → Type 0
IsAsked line = line.outcome ≢ Unasked

-- Where each fault was asked for, the certificate has the evidence of exactly the classes that no pattern detects, as before lines could say unasked.
abbrev pub AllAskedAsBefore : Type 0
AllAskedAsBefore =
    (files : FiveFiles) (c : Contents) → IsSound c.netlist → (good : AreGoodFiles files c) → All IsAsked c.said.lines
    → (class : ℕ) (f : Fault) → Represents good.tested.classes class f → Contains (faults_in c.evidence) f ↔ IsNeverDetected c.netlist good.tested.patterns f

-- Where detections are counted, each fault has a number, and it is 0 exactly where no pattern of the test detects the fault, whatever its line says.
abbrev pub TimesTellDetected : Type 0
TimesTellDetected =
    (files : FiveFiles) (c : Contents) → (good : AreGoodFiles files c) → 0 < c.said.times.most → (place : ℕ) (f : Fault) → slice_get (universe_of c.netlist) place ≡ Some f
    → (times : ℕ) × (slice_get c.said.times.of place ≡ Some times) × ((times ≡ 0) ↔ IsNeverDetected c.netlist good.tested.patterns f)

-- Where no clause is false, the files are good.
abbrev pub CheckedIsGood : Type 0
CheckedIsGood =
    (files : FiveFiles) (c : Contents) (count : ℕ) → IsSound c.netlist → IsDesign c.netlist → StandFor files c → IsAnswer c (Faults count) → ArePassed files

-- For good files, whoever made them, the check has no other answer than how many faults there are, but for want of memory.
abbrev pub GoodFilesPass : Type 0
GoodFilesPass =
    (files : FiveFiles) (c : Contents) → IsSound c.netlist → AreGoodFiles files c
    → (answer : Result Checked CheckFault) → IsChecked files answer → (answer ≡ Err NoMemory) ⊎ (answer ≡ Ok (Faults (length (universe_of c.netlist))))

-- Two answers to the same files: the same refusal, the same number of faults, or some clause that is false. Want of memory may stand beside each.
abbrev pub AreConsistentAnswers : Result Checked CheckFault → Result Checked CheckFault → Type 0
AreConsistentAnswers (Err NoMemory) b = ⊤
AreConsistentAnswers (Err r) (Err NoMemory) = ⊤
AreConsistentAnswers (Err r) (Err s) = r ≡ s
AreConsistentAnswers (Err r) (Ok b) = ⊥
AreConsistentAnswers (Ok a) (Err NoMemory) = ⊤
AreConsistentAnswers (Ok a) (Err s) = ⊥
AreConsistentAnswers (Ok (Faults m)) (Ok (Faults k)) = m ≡ k
AreConsistentAnswers (Ok (Faults m)) (Ok (False c)) = ⊥
AreConsistentAnswers (Ok (False c)) (Ok (Faults k)) = ⊥
AreConsistentAnswers (Ok (False c)) (Ok (False d)) = ⊤

-- an answer, and what it means where no clause is false
abbrev pub IsWholeAnswer : FiveFiles → Result Checked CheckFault → Type 0
IsWholeAnswer files (Ok answer) = IsChecked files (Ok answer) × PassesWhereTrue files answer
IsWholeAnswer files (Err fault) = IsChecked files (Err fault)

-- The same files are answered alike.
abbrev pub AnswersAgree : Type 0
AnswersAgree = (files : FiveFiles) (a b : Result Checked CheckFault) → IsWholeAnswer files a → IsWholeAnswer files b → AreConsistentAnswers a b
