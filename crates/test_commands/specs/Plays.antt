-- What `play` says of a netlist, with a fault or none, and the cycles of a STIL file.
use Rattle.std.specs.Prelude.{ℕ, ◌++◌, List, Option, codes, decimal, ◌≡◌, [], ◌∷◌, ◌<◌, ⊤, length}
use Rattle.statement.specs.Benches.{Text}
use Rattle.statement.specs.declared.lines.Fault.{Fault}
use Rattle.statement.specs.Netlists.{Netlist}
use Rattle.scan_insert.specs.Names.{pin_name_of}
use Rattle.scan_play.specs.declared.played.Played.{Played}
use Rattle.scan_play.specs.declared.played.Played.TheVariants as played
use Rattle.statement.specs.Runs.{Cycle}
use Rattle.statement.specs.Runs as runs
use Rattle.scan_play.specs.Playing.{PlaysAs}
use Rattle.commands.specs.declared.ending.Finding.{Finding}
use Rattle.commands.specs.declared.ending.Finding.TheVariants.{Fine, Differs}
use Rattle.bench_text.specs.declared.refusal.Names.TheVariants.{Scanned}
use Rattle.commands.specs.Due.{Due, Deliver}
use Rattle.statement.specs.Tests.{vectors_in}
use Rattle.stil_read.specs.Reading.{StandsFor}
use Rattle.stil_vectors.specs.Fitting.{FitsNetlist}
use Rattle.command_steps.specs.Steps.{◌>>=◌, netlist, value, test, named_fault}
use Rattle.command_steps.specs.declared.refusal.Refusal.{Refusal}
use Rattle.command_steps.specs.declared.refusal.Refusal.TheVariants.{NotStil, StilDoesNotFit}

-- ` at cycle 5 signal SC__so0`
abbrev pub strobe_text : Netlist → ℕ → ℕ → Text
strobe_text n cycle output = codes " at cycle " ++ (decimal cycle ++ (codes " signal " ++ (pin_name_of n output ++ codes "\n")))

abbrev pub played_line : Netlist → Played → Text
played_line n played.Passes = codes "passes\n"
played_line n (played.Fails cycle output) = codes "fails" ++ strobe_text n cycle output
played_line n (played.Unknown cycle output) = codes "unknown" ++ strobe_text n cycle output

abbrev pub played_finding : Played → Finding
played_finding played.Passes = Fine
played_finding _ = Differs

-- From every power-up state of the cells the netlist passes, or it fails at this strobe. An unknown strobe tells nothing of them.
abbrev pub HoldsFromPowerUp : Netlist → Option Fault → List Cycle → Played → Type 0
HoldsFromPowerUp n f cycles played.Passes = runs.Passes n f cycles
HoldsFromPowerUp n f cycles (played.Fails cycle output) = runs.FailsAt n f cycles cycle output
HoldsFromPowerUp n f cycles (played.Unknown cycle output) = Unit {0}

-- what playing answers, and what that means
pub record IsPlay (n : Netlist) (f : Option Fault) (cycles : List Cycle) (answer : Played) : Type 0 where
  pub plays : PlaysAs n f cycles answer
  pub holds : HoldsFromPowerUp n f cycles answer

-- a strobe that is shown is one of an output
abbrev pub IsShown : Netlist → Played → Type 0
IsShown n played.Passes = ⊤
IsShown n (played.Fails cycle output) = output < length n.outputs
IsShown n (played.Unknown cycle output) = output < length n.outputs

-- ---- what is due

-- the line of what playing the file answers
abbrev pub play_due : Option Text → List Text → Due Refusal → Type 0
play_due fault (net ∷ stil ∷ []) =
    netlist Scanned net >>= λ n. named_fault n fault >>= λ f. value StandsFor NotStil stil >>= λ file. test (FitsNetlist file n) StilDoesNotFit >>= λ _ d.
    (answer : Played) × IsPlay n f (vectors_in file) answer × (d ≡ Deliver [] (played_line n answer) (played_finding answer))
play_due fault texts = λ d. ⊥
