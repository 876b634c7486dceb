-- What `check` reads, and what is due of the texts.
use Rattle.std.specs.Prelude.{ℕ, ◌≡◌, ◌⊎◌, ◌++◌, List, [], ◌∷◌, Result, Ok, Err, codes, decimal, length}
use Rattle.statement.specs.Benches.{Text}
use Rattle.commands.specs.Due.{Due, Deliver, Refuse}
use Rattle.commands.specs.declared.ending.Finding.{Finding}
use Rattle.commands.specs.declared.ending.Finding.TheVariants.{Fine, Differs}
use Rattle.good_files.specs.declared.answers.Checked.{Checked}
use Rattle.good_files.specs.declared.answers.Checked.TheVariants.{Faults, False}
use Rattle.good_files.specs.declared.answers.Clause.{Clause}
use Rattle.good_files.specs.declared.answers.Clause.TheVariants as clause
use Rattle.good_files.specs.declared.answers.CheckFault.{CheckFault}
use Rattle.good_files.specs.declared.answers.CheckFault.TheVariants as fault
use Rattle.good_files.specs.Laws.{IsWholeAnswer}
use Rattle.good_slow_files.specs.GoodSlowFiles.{AreGoodSlowFiles, SlowContents}
use Rattle.good_slow_files.specs.Laws.{IsWholeSlowAnswer}
use Rattle.good_files.specs.GoodFiles.{AreGoodFiles, Contents}
use Rattle.statement.specs.Statement.{FiveFiles}
use Rattle.netlist.specs.Conditions.{IsSound}
use Rattle.netlist.specs.Designs.{IsDesign}
use Rattle.statement.specs.Faults.{universe_of}
use Rattle.check_command.specs.declared.refusal.CheckRefusal.{CheckRefusal}
use Rattle.check_command.specs.declared.refusal.CheckRefusal.TheVariants as refusal

-- ---- what is shown

abbrev pub clause_line : Clause → Text
clause_line clause.ScanDiffers = codes "scan differs\n"
clause_line clause.HoldDiffers = codes "hold differs\n"
clause_line clause.StilDiffers = codes "stil differs\n"
clause_line (clause.Fault text) = codes "fault " ++ (text.items ++ codes "\n")
clause_line clause.TotalsDiffer = codes "totals differ\n"

-- `checked 34 faults`
abbrev pub checked_line : ℕ → Text
checked_line count = codes "checked " ++ (decimal count ++ codes " faults\n")

-- how many faults there are, or the first clause that is false
abbrev pub answer_line : Checked → Text
answer_line (Faults count) = checked_line count
answer_line (False clause) = clause_line clause

abbrev pub checked_finding : Checked → Finding
checked_finding (Faults count) = Fine
checked_finding (False clause) = Differs

-- ---- which check

-- The files are of slow lines: their report begins so, of either version. No report of stuck lines does.
abbrev pub AreSlow : FiveFiles → Type 0
AreSlow files = (rest : Text) × (files.report ≡ codes "atpg transition " ++ rest)

-- what is answered of them, and what it means: by the check of slow lines, or else by that of stuck ones
abbrev pub IsAnswerOf : FiveFiles → Result Checked CheckFault → Type 0
IsAnswerOf files answer = (AreSlow files × IsWholeSlowAnswer files answer) ⊎ ((¬ AreSlow files) × IsWholeAnswer files answer)

-- ---- what is due

-- the refusal as the check tells it
abbrev pub fault_of : CheckRefusal → CheckFault
fault_of (refusal.Netlist why) = fault.Netlist why
fault_of refusal.NotStil = fault.NotStil
fault_of refusal.NotCertificate = fault.NotCertificate
fault_of refusal.NotReport = fault.NotReport

-- the line of what is answered of five texts, which are good where that is how many faults there are; or the refusal of the first outside its grammar
abbrev pub files_due : FiveFiles → Due CheckRefusal → Type 0
files_due files d =
    ((answer : Checked) × IsAnswerOf files (Ok answer) × (d ≡ Deliver [] (answer_line answer) (checked_finding answer)))
    ⊎ ((why : CheckRefusal) × IsAnswerOf files (Err (fault_of why)) × (d ≡ Refuse why))

abbrev pub five_texts_due : List Text → Due CheckRefusal → Type 0
five_texts_due (net ∷ scan ∷ stil ∷ certificate ∷ report ∷ []) =
    files_due (record { net = net; scan = scan; stil = stil; certificate = certificate; report = report })
five_texts_due texts = λ d. ⊥

-- ---- the laws

-- Of good files, whoever made them, nothing else is due than the line that says how many faults there are.
abbrev pub GoodFilesChecked : Type 0
GoodFilesChecked =
    (files : FiveFiles) (c : Contents) → IsSound c.netlist → AreGoodFiles files c
    → (d : Due CheckRefusal) → files_due files d → d ≡ Deliver [] (checked_line (length (universe_of c.netlist))) Fine

-- The same of good files of slow lines.
abbrev pub GoodSlowFilesChecked : Type 0
GoodSlowFilesChecked =
    (files : FiveFiles) (c : SlowContents) → IsSound c.netlist → IsDesign c.netlist → AreGoodSlowFiles files c
    → (d : Due CheckRefusal) → files_due files d → d ≡ Deliver [] (checked_line (length (universe_of c.netlist))) Fine
