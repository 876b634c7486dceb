-- The commands: for each command line what is due of the texts that it reads. Which files it reads and writes, `command_line` says.
-- A command to come is an entry here and there.
use Rattle.std.specs.Prelude.{◌≡◌, ℕ, List, [], ◌∷◌}
use Rattle.statement.specs.Benches.{Text}
use Rattle.statement.specs.Netlists.{Netlist}
use Rattle.statement.specs.Patterns.{Holds}
use Rattle.net_gen.specs.Samples.{sample, words_from_seed}
use Rattle.command_line.specs.CommandLine.{CommandLine, chaintest, check, diagnose, faults, grade, play, run, scan, sweep, transition}
use Rattle.command_line.specs.HoldLists.{HoldItem}
use Rattle.commands.specs.Due.{Due, Deliver}
use Rattle.commands.specs.declared.ending.Finding.TheVariants.{Fine}
use Rattle.command_line.specs.declared.requests.SlowOptions.{SlowOptions}
use Rattle.run_files.specs.declared.files.RunFiles.{RunFiles}
use Rattle.transition_run.specs.declared.files.TransitionFiles.{TransitionFiles}
use Rattle.transition_run.specs.Runs.{IsTransitionRun, transition_files_of}
use Rattle.atpg_top.specs.Checks.{check_due}
use Rattle.command_steps.specs.Ordering.{ordered_due}
use Rattle.command_steps.specs.Steps.{◌>>=◌, design_due, named_holds}
use Rattle.command_steps.specs.Runs.{tests_line, texts_in}
use Rattle.asked_run.specs.Asked.{may_refute, ordered_run_due}
use Rattle.atpg_top.specs.Scans.{IsScanProduct}
use Rattle.atpg_top.specs.FaultLists.{IsFaultList}
use Rattle.test_commands.specs.ChainTests.{chaintest_due}
use Rattle.test_commands.specs.Grades.{grade_due}
use Rattle.test_commands.specs.Plays.{play_due}
use Rattle.diagnose_command.specs.Diagnoses.{diagnose_due}
use Rattle.atpg_top.specs.Sweeps.{IsSweep, sweep_text}
use Rattle.command_steps.specs.declared.refusal.Refusal.{Refusal}

-- the scanned netlist's text, and the line that counts cells and chains
abbrev pub scanned_due : ℕ → Netlist → Due Refusal → Type 0
scanned_due chains n d = (text : Text) × (line : Text) × IsScanProduct n chains text line × (d ≡ Deliver (text ∷ []) line Fine)

abbrev pub scan_due : ℕ → List Text → Due Refusal → Type 0
scan_due chains = design_due (scanned_due chains)

-- the list of faults
abbrev pub faults_due : List Text → Due Refusal → Type 0
faults_due = design_due (λ n d. (text : Text) × IsFaultList n text × (d ≡ Deliver [] text Fine))

-- the five texts of a design's slow lines with held inputs, and the line with the report's numbers
abbrev pub slow_due : SlowOptions → Netlist → Holds → Due Refusal → Type 0
slow_due options n holds d =
    (made : TransitionFiles) × IsTransitionRun n holds options.numbers.chains options.numbers.limit (may_refute options.engine) made × (d ≡ Deliver (texts_in (transition_files_of made)) (tests_line made.said.counts) Fine)

-- the same where inputs of these names are held
abbrev pub named_slow_due : SlowOptions → List HoldItem → Netlist → Due Refusal → Type 0
named_slow_due options named n = named_holds n named >>= slow_due options n

-- and of a design's text
abbrev pub transition_due : SlowOptions → List HoldItem → List Text → Due Refusal → Type 0
transition_due options named = design_due (named_slow_due options named)

-- the numbers of a run of the sample netlist, whose test passes
abbrev pub sweep_due : ℕ → ℕ → List Text → Due Refusal → Type 0
sweep_due seed gates [] = λ d. (made : RunFiles) × IsSweep (sample gates (words_from_seed seed)) made × (d ≡ Deliver [] (sweep_text made.said) Fine)
sweep_due seed gates texts = λ d. ⊥

-- what is due of the texts that a command line has read
abbrev pub due : CommandLine → List Text → Due Refusal → Type 0
due (scan net to chains order) = ordered_due scan_due order chains
due (faults net) = faults_due
due (play net stil fault) = play_due fault
due (run net prefix order list first options holds) = ordered_run_due order list first options holds
due (check prefix) = check_due
due (sweep seed gates) = sweep_due seed gates
due (chaintest net stil chains) = chaintest_due chains
due (diagnose net stil log options) = diagnose_due options.chains options.rank
due (transition net prefix options holds) = transition_due options holds
due (grade net stil prefix chains) = grade_due chains
