-- What a command owes for the same texts is alike.
use Rattle.std.proofs.Common.{ℕ, List, [], ◌≡◌, ◌∷◌, refl, ap}
use Rattle.stil_read.specs.Laws.{AtMostOne}
use Rattle.diagnose.specs.LogLaws.{OneLog}
use Rattle.commands.specs.Due.{Due, Deliver, Refuse}
use Rattle.commands.specs.Laws.{AreAlike, IsExclusive}
use Rattle.commands.specs.declared.ending.Finding.TheVariants.{Fine}
use Rattle.statement.specs.Benches.{Text}
use Rattle.statement.specs.Netlists.{Netlist}
use Rattle.statement.specs.Patterns.{Holds}
use Rattle.command_line.specs.CommandLine.{CommandLine, chaintest, check, diagnose, faults, grade, play, run, scan, sweep, transition}
use Rattle.command_line.specs.HoldLists.{HoldItem}
use Rattle.command_line.specs.declared.requests.SlowOptions.{SlowOptions}
use Rattle.check_command.specs.Checking as command
use Rattle.check_command.specs.declared.refusal.CheckRefusal.{CheckRefusal}
use Rattle.transition_run.specs.declared.files.TransitionFiles.{TransitionFiles}
use Rattle.transition_run.specs.Runs.{transition_files_of}
use Rattle.command_steps.specs.Runs.{tests_line, texts_in}
use Rattle.command_steps.specs.declared.refusal.Refusal.{Refusal}
use Rattle.command_steps.specs.Steps.{named_holds}
use Rattle.command_steps.proofs.HoldLemmas.{holds_single}
use Rattle.command_steps.proofs.OrderLemmas.{ordered_exclusive}
use Rattle.command_steps.proofs.Single.{IsOneKind, design_exclusive, given, then_one}
use Rattle.asked_run.proofs.Exclusive.{ordered_run_exclusive}
use Rattle.test_commands.proofs.Exclusive.{chaintest_exclusive, grade_exclusive, play_exclusive}
use Rattle.diagnose_command.proofs.Exclusive.{diagnose_exclusive}
use Rattle.atpg_top.specs.Checks.{check_due, refusal_of, told}
use Rattle.atpg_top.specs.Commands.{due, faults_due, named_slow_due, scan_due, slow_due, sweep_due, transition_due}
use Rattle.atpg_top.specs.FaultLists.{IsFaultList}
use Rattle.atpg_top.specs.Scans.{IsScanProduct}
use Rattle.atpg_top.specs.Sweeps.{sweep_text}

scan_exclusive : (chains : ℕ) → IsExclusive (scan_due chains)
scan_exclusive chains =
    design_exclusive (λ n d. (text : Text) × (line : Text) × IsScanProduct n chains text line × (d ≡ Deliver (text ∷ []) line Fine))
    (λ n sound x y a b. given x y (Deliver (a.0 ∷ []) a.1 Fine) (Deliver (b.0 ∷ []) b.1 Fine) a.3 b.3 refl)

faults_exclusive : IsExclusive faults_due
faults_exclusive =
    design_exclusive (λ n d. (text : Text) × IsFaultList n text × (d ≡ Deliver [] text Fine))
    (λ n sound x y a b. given x y (Deliver [] a.0 Fine) (Deliver [] b.0 Fine) a.2 b.2 refl)

-- ---- `transition`

slow_once : (options : SlowOptions) (n : Netlist) (holds : Holds) → IsOneKind (slow_due options n holds)
slow_once options n holds x y a b =
    let due : TransitionFiles → Due Refusal = λ made. Deliver (texts_in (transition_files_of made)) (tests_line made.said.counts) Fine in
    given x y (due a.0) (due b.0) a.2 b.2 refl

transition_exclusive : (options : SlowOptions) (named : List HoldItem) → IsExclusive (transition_due options named)
transition_exclusive options named =
    design_exclusive (named_slow_due options named) (λ n sound. then_one (named_holds n named) (slow_due options n) (holds_single n sound named) (slow_once options n))

-- ---- `check`

told_alike : (c d : Due CheckRefusal) → AreAlike c d → AreAlike (told c) (told d)
told_alike (Refuse r) (Refuse s) alike = ap refusal_of alike
told_alike (Refuse r) (Deliver texts shown finding) alike = absurd alike
told_alike (Deliver texts shown finding) (Refuse s) alike = absurd alike
told_alike (Deliver texts shown finding) (Deliver others also found) alike = alike

check_exclusive : IsExclusive command.five_texts_due → IsExclusive check_due
check_exclusive checks texts c d p q = given c d (told p.0) (told q.0) p.2 q.2 (told_alike p.0 q.0 (checks texts p.0 q.0 p.1 q.1))

-- ---- `sweep`

sweep_exclusive : (seed gates : ℕ) → IsExclusive (sweep_due seed gates)
sweep_exclusive seed gates [] c d p q = given c d (Deliver [] (sweep_text p.0.said) Fine) (Deliver [] (sweep_text q.0.said) Fine) p.2 q.2 refl
sweep_exclusive seed gates (bytes ∷ others) c d p q = absurd p

pub each_exclusive : AtMostOne → IsExclusive command.five_texts_due → OneLog → (line : CommandLine) → IsExclusive (due line)
each_exclusive one checks once (scan net to chains order) = ordered_exclusive scan_due scan_exclusive order chains
each_exclusive one checks once (faults net) = faults_exclusive
each_exclusive one checks once (play net stil fault) = play_exclusive one fault
each_exclusive one checks once (run net prefix order list first options holds) = ordered_run_exclusive one order list first options holds
each_exclusive one checks once (check prefix) = check_exclusive checks
each_exclusive one checks once (sweep seed gates) = sweep_exclusive seed gates
each_exclusive one checks once (chaintest net stil chains) = chaintest_exclusive one chains
each_exclusive one checks once (diagnose net stil log options) = diagnose_exclusive one once options.chains options.rank
each_exclusive one checks once (transition net prefix options holds) = transition_exclusive options holds
each_exclusive one checks once (grade net stil prefix chains) = grade_exclusive one chains
