-- The laws of good files of slow lines.
use Rattle.std.specs.Prelude.{ℕ, ◌≡◌, ◌⊎◌, Bool, Result, Ok, Err, length}
use Rattle.std.specs.List.{All}
use Rattle.netlist.specs.Conditions.{IsSound}
use Rattle.netlist.specs.Designs.{IsDesign}
use Rattle.statement.specs.declared.lines.Fault.{Fault}
use Rattle.statement.specs.Statement.{FiveFiles}
use Rattle.statement.specs.Faults.{universe_of}
use Rattle.evidence.specs.declared.kinds.Evidence.{Evidence}
use Rattle.evidence.specs.Evidence.{MayBe}
use Rattle.good_files.specs.declared.answers.Checked.{Checked}
use Rattle.good_files.specs.declared.answers.Checked.TheVariants.{Faults}
use Rattle.good_files.specs.declared.answers.CheckFault.{CheckFault}
use Rattle.good_files.specs.declared.answers.CheckFault.TheVariants.{NoMemory}
use Rattle.good_files.specs.Laws.{AreConsistentAnswers}
use Rattle.good_slow_files.specs.GoodSlowFiles.{AreGoodSlowFiles, SlowContents, StandForSlow, slow_chains_in, slow_limit_said}
use Rattle.good_slow_files.specs.Checks.{ArePassedSlow, IsSlowAnswer, IsSlowChecked, PassesWhereTrueSlow, with_canonical_net}
use Rattle.good_slow_files.specs.Theorem.{TransitionTheorem}

-- Good files tell the truth of the patterns by which they are good. There are refutations only where their evidence has some.
abbrev pub GoodSlowFilesTellTheTruth : Type 0
GoodSlowFilesTellTheTruth =
    (files : FiveFiles) (c : SlowContents) (refutes : Bool) → IsSound c.netlist → IsDesign c.netlist → (good : AreGoodSlowFiles files c)
    → All (λ (p : Fault × Evidence). MayBe refutes p.1) c.evidence
    → (truth : TransitionTheorem c.netlist good.tested.holds (slow_chains_in c) (slow_limit_said c.said) refutes (with_canonical_net files c.netlist))
    × (truth.patterns ≡ good.tested.patterns)

-- Where no clause is false, the files are good.
abbrev pub SlowCheckedIsGood : Type 0
SlowCheckedIsGood =
    (files : FiveFiles) (c : SlowContents) (count : ℕ) → IsSound c.netlist → IsDesign c.netlist → StandForSlow files c → IsSlowAnswer c (Faults count) → ArePassedSlow files

-- For good files, whoever made them, the check has no other answer than how many faults there are, but for want of memory.
abbrev pub GoodSlowFilesPass : Type 0
GoodSlowFilesPass =
    (files : FiveFiles) (c : SlowContents) → IsSound c.netlist → IsDesign c.netlist → AreGoodSlowFiles files c
    → (answer : Result Checked CheckFault) → IsSlowChecked files answer → (answer ≡ Err NoMemory) ⊎ (answer ≡ Ok (Faults (length (universe_of c.netlist))))

-- an answer, and what it means where no clause is false
abbrev pub IsWholeSlowAnswer : FiveFiles → Result Checked CheckFault → Type 0
IsWholeSlowAnswer files (Ok answer) = IsSlowChecked files (Ok answer) × PassesWhereTrueSlow files answer
IsWholeSlowAnswer files (Err fault) = IsSlowChecked files (Err fault)

-- The same files are answered alike.
abbrev pub SlowAnswersAgree : Type 0
SlowAnswersAgree = (files : FiveFiles) (a b : Result Checked CheckFault) → IsWholeSlowAnswer files a → IsWholeSlowAnswer files b → AreConsistentAnswers a b
