-- What is played on what.
use Rattle.std.specs.Prelude.{◌≡◌, ⊤, [], ◌∷◌, Option, Result, Ok, Err}
use Rattle.statement.specs.Benches.{Text}
use Rattle.bench_text.specs.declared.refusal.Names.TheVariants.{Scanned}
use Rattle.statement.specs.declared.lines.Fault.{Fault}
use Rattle.statement.specs.Netlists.{Netlist}
use Rattle.scan_play.specs.declared.played.Played.{Played}
use Rattle.scan_play.specs.declared.played.Played.TheVariants as played
use Rattle.stil_read.specs.Reading.{StandsFor}
use Rattle.statement.specs.Tests.{vectors_in}
use Rattle.stil_vectors.specs.Fitting.{FitsNetlist}
use Rattle.statement.specs.Stils.{StilFile}
use Rattle.commands.specs.Due.{Due, Deliver, Refuse}
use Rattle.commands.specs.declared.product.Stop.{Stop}
use Rattle.commands.specs.declared.product.Stop.TheVariants as stop
use Rattle.test_commands.specs.Plays.{play_due, IsPlay, played_finding, played_line}
use Rattle.command_steps.specs.Steps.{◌>>=◌, named_fault, netlist, test, value}
use Rattle.command_steps.specs.declared.refusal.Refusal.{Refusal}
use Rattle.command_steps.specs.declared.refusal.Refusal.TheVariants.{NotStil, StilDoesNotFit}
use Rattle.test_commands.specs.declared.playing.Trial.{Trial}

-- the netlist, the fault and the file that the words and the texts give
pub record IsTrial (fault : Option Text) (net stil : Text) (n : Netlist) (f : Option Fault) (file : StilFile) : Type 0 where
  pub net_is : netlist Scanned net (Ok n)
  pub fault_is : named_fault n fault (Ok f)
  pub file_is : value StandsFor NotStil stil (Ok file)

abbrev pub ReadsTrial : Option Text → Text → Text → Result Trial (Stop Refusal) → Type 0
ReadsTrial fault net stil (Ok t) = IsTrial fault net stil t.netlist t.fault t.file
ReadsTrial fault net stil (Err (stop.Refused r)) = play_due fault (net ∷ stil ∷ []) (Refuse r)
ReadsTrial fault net stil (Err stop.NoMemory) = ⊤

-- what is due of a netlist, a fault and a file that fits
abbrev pub answer_due : Netlist → Option Fault → StilFile → Due Refusal → Type 0
answer_due n f file d = (answer : Played) × IsPlay n f (vectors_in file) answer × (d ≡ Deliver [] (played_line n answer) (played_finding answer))

-- the same of a file that may not fit
abbrev pub trial_due : Netlist → Option Fault → StilFile → Due Refusal → Type 0
trial_due n f file = test (FitsNetlist file n) StilDoesNotFit >>= λ _. answer_due n f file

-- the same of the bytes of a file, and of the text of a fault
abbrev pub file_due : Text → Netlist → Option Fault → Due Refusal → Type 0
file_due stil n f = value StandsFor NotStil stil >>= λ file. trial_due n f file

abbrev pub fault_due : Option Text → Text → Netlist → Due Refusal → Type 0
fault_due fault stil n = named_fault n fault >>= λ f. file_due stil n f
