-- What is due of `check`, in the words of this program's refusals.
use Rattle.std.specs.Prelude.{ℕ, ◌≡◌, Bool, List, [], length}
use Rattle.statement.specs.Benches.{Text}
use Rattle.netlist.specs.Conditions.{IsSound}
use Rattle.netlist.specs.Designs.{IsDesign}
use Rattle.statement.specs.Netlists.{Netlist}
use Rattle.statement.specs.Patterns.{Holds}
use Rattle.statement.specs.Faults.{universe_of}
use Rattle.run_files.specs.declared.files.RunFiles.{RunFiles}
use Rattle.run_files.specs.Runs.{Asked, IsRun}
use Rattle.transition_run.specs.declared.files.TransitionFiles.{TransitionFiles}
use Rattle.transition_run.specs.Runs.{IsTransitionRun, transition_files_of}
use Rattle.commands.specs.declared.ending.Finding.TheVariants.{Fine}
use Rattle.commands.specs.Due.{Due, Deliver, Refuse}
use Rattle.check_command.specs.Checking as command
use Rattle.check_command.specs.declared.refusal.CheckRefusal.{CheckRefusal}
use Rattle.check_command.specs.declared.refusal.CheckRefusal.TheVariants as check
use Rattle.asked_run.specs.Asked.{texts_made}
use Rattle.command_steps.specs.Runs.{texts_in}
use Rattle.command_steps.specs.declared.refusal.Refusal.{Refusal}
use Rattle.command_steps.specs.declared.refusal.Refusal.TheVariants as refusal

abbrev pub refusal_of : CheckRefusal → Refusal
refusal_of (check.Netlist why) = refusal.Netlist why
refusal_of check.NotStil = refusal.NotStil
refusal_of check.NotCertificate = refusal.NotCertificate
refusal_of check.NotReport = refusal.NotReport

abbrev pub told : Due CheckRefusal → Due Refusal
told (Refuse r) = Refuse (refusal_of r)
told (Deliver texts shown finding) = Deliver texts shown finding

-- how many faults were checked, or the first clause that is false
abbrev pub check_due : List Text → Due Refusal → Type 0
check_due texts d = (e : Due CheckRefusal) × command.five_texts_due texts e × (d ≡ told e)

-- Of the five texts of a run nothing else is due than the line that says how many faults there are.
abbrev pub RunsPass : Type 0
RunsPass =
    (n : Netlist) (asked : Asked) (made : RunFiles) → IsSound n → IsRun n asked made
    → (d : Due Refusal) → check_due (texts_made made) d → d ≡ Deliver [] (command.checked_line (length (universe_of n))) Fine

-- The same of the five texts of a run for slow lines.
abbrev pub TransitionsPass : Type 0
TransitionsPass =
    (n : Netlist) (holds : Holds) (asked limit : ℕ) (refutes : Bool) (made : TransitionFiles) → IsSound n → IsDesign n → IsTransitionRun n holds asked limit refutes made
    → (d : Due Refusal) → check_due (texts_in (transition_files_of made)) d → d ≡ Deliver [] (command.checked_line (length (universe_of n))) Fine
