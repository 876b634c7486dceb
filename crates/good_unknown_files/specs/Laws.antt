-- The laws of good files of tests with unknown inputs.
use Rattle.std.specs.Prelude.{ℕ, ◌≡◌, ◌⊎◌, Result, Ok, Err, length}
use Rattle.statement.specs.Faults.{universe_of}
use Rattle.statement.specs.Statement.{FiveFiles}
use Rattle.netlist.specs.Conditions.{IsSound}
use Rattle.netlist.specs.Designs.{IsDesign}
use Rattle.good_files.specs.declared.answers.Checked.{Checked}
use Rattle.good_files.specs.declared.answers.Checked.TheVariants.{Faults}
use Rattle.good_files.specs.declared.answers.CheckFault.{CheckFault}
use Rattle.good_files.specs.declared.answers.CheckFault.TheVariants.{NoMemory}
use Rattle.good_files.specs.Laws.{AreConsistentAnswers}
use Rattle.good_unknown_files.specs.GoodUnknownFiles.{AreGoodUnknownFiles, StandForUnknown, UnknownContents, unknown_chains_in}
use Rattle.good_unknown_files.specs.Checks.{ArePassedUnknown, IsUnknownAnswer, IsUnknownChecked, PassesWhereTrueUnknown}
use Rattle.good_unknown_files.specs.Theorem.{UnknownTheorem}

-- Good files tell the truth, whatever the unknown inputs have.
abbrev pub GoodUnknownFilesTellTheTruth : Type 0
GoodUnknownFilesTellTheTruth =
    (files : FiveFiles) (c : UnknownContents) → IsSound c.netlist → IsDesign c.netlist → (good : AreGoodUnknownFiles files c)
    → UnknownTheorem c.netlist good.tested.unknown good.tested.holds (unknown_chains_in c) c.file files

-- Where no clause is false, the files are good.
abbrev pub UnknownCheckedIsGood : Type 0
UnknownCheckedIsGood =
    (files : FiveFiles) (c : UnknownContents) (count : ℕ) → IsSound c.netlist → IsDesign c.netlist → StandForUnknown files c → IsUnknownAnswer c (Faults count)
    → ArePassedUnknown files

-- For good files, whoever made them, the check has no other answer than how many faults there are, but for want of memory.
abbrev pub GoodUnknownFilesPass : Type 0
GoodUnknownFilesPass =
    (files : FiveFiles) (c : UnknownContents) → IsSound c.netlist → IsDesign c.netlist → AreGoodUnknownFiles files c
    → (answer : Result Checked CheckFault) → IsUnknownChecked files answer → (answer ≡ Err NoMemory) ⊎ (answer ≡ Ok (Faults (length (universe_of c.netlist))))

-- an answer, and what it means where no clause is false
abbrev pub IsWholeUnknownAnswer : FiveFiles → Result Checked CheckFault → Type 0
IsWholeUnknownAnswer files (Ok answer) = IsUnknownChecked files (Ok answer) × PassesWhereTrueUnknown files answer
IsWholeUnknownAnswer files (Err fault) = IsUnknownChecked files (Err fault)

-- The same files are answered alike.
abbrev pub UnknownAnswersAgree : Type 0
UnknownAnswersAgree =
    (files : FiveFiles) (a b : Result Checked CheckFault) → IsWholeUnknownAnswer files a → IsWholeUnknownAnswer files b → AreConsistentAnswers a b
