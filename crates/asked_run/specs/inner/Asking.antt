-- The steps of `run` up to what it is asked for.
use Rattle.std.specs.Prelude.{ℕ, ◌≡◌, ⊤, Bool, List, [], Option, Some, None, Result, Ok, Err, length, option_map}
use Rattle.statement.specs.Benches.{Text}
use Rattle.statement.specs.Netlists.{Netlist}
use Rattle.statement.specs.Patterns.{Holds, Pattern}
use Rattle.statement.specs.Stils.{StilFile}
use Rattle.bench_text.specs.declared.refusal.Names.TheVariants.{Design}
use Rattle.netlist.specs.Designs.{IsDesign}
use Rattle.netlist.specs.Holds.{AreHoldsOf}
use Rattle.stil_patterns.specs.Applied.{applied_in}
use Rattle.run_files.specs.declared.asked.Wanted.{Wanted}
use Rattle.command_line.specs.CommandLine.{run_reads}
use Rattle.command_line.specs.HoldLists.{HoldItem}
use Rattle.command_line.specs.declared.requests.RunOptions.{RunOptions}
use Rattle.commands.specs.Due.{Due, Refuse}
use Rattle.commands.specs.declared.product.Stop.{Stop}
use Rattle.commands.specs.declared.product.Stop.TheVariants as stop
use Rattle.asked_run.specs.Asked.{FitsDesign, RunRead, asked_due, chains_of_file, first_patterns, made_due, marked_faults, run_texts, IsWanted}
use Rattle.command_steps.specs.Steps.{◌>>=◌, named_holds, netlist}
use Rattle.asked_run.specs.declared.asking.RunCase.{RunCase}
use Rattle.asked_run.specs.declared.asking.RunTexts.{RunTexts}
use Rattle.command_steps.specs.declared.refusal.Refusal.{Refusal}
use Rattle.command_steps.specs.declared.refusal.Refusal.TheVariants as refusal

-- the texts as they are lent
abbrev pub run_texts_of : RunTexts → RunRead
run_texts_of t = run_texts t.net.now (option_map (λ text. text.now) t.list) (option_map (λ text. text.now) t.stil)

-- there are as many texts as the words name files
abbrev pub HaveCount : Option Text → Option Text → Option Text → ℕ → Type 0
HaveCount order list first count = count ≡ length (run_reads [] order list first)

-- ---- what is due behind each step

abbrev pub first_due : RunOptions → Netlist → Holds → Option Text → List Bool → Due Refusal → Type 0
first_due options n holds stil marks = first_patterns n holds stil >>= λ first. made_due options n holds marks first

abbrev pub wanted_due : RunOptions → Netlist → Holds → Option Text → Option Text → Due Refusal → Type 0
wanted_due options n holds list stil = marked_faults n list >>= λ marks. first_due options n holds stil marks

abbrev pub held_due : RunOptions → List HoldItem → Option Text → Option Text → Netlist → Due Refusal → Type 0
held_due options named list stil n = named_holds n named >>= λ holds. wanted_due options n holds list stil

-- ---- what the steps answer

-- what a file applies, if it fits
abbrev pub applied_step : Netlist → Holds → StilFile → Result (List Pattern) Refusal → Type 0
applied_step n holds file (Ok patterns) = FitsDesign file n × (patterns ≡ applied_in n holds (chains_of_file n file) file)
applied_step n holds file (Err r) = (r ≡ refusal.StilDoesNotFit) × (¬ FitsDesign file n)

-- the faults and the patterns, or what is due then, however the run searches
abbrev pub ReadsWanted : Netlist → Holds → Option Text → Option Text → Result Wanted (Stop Refusal) → Type 0
ReadsWanted n holds list stil (Ok w) = marked_faults n list (Ok w.faults.items) × first_patterns n holds stil (Ok w.first.items)
ReadsWanted n holds list stil (Err (stop.Refused r)) = (options : RunOptions) → wanted_due options n holds list stil (Refuse r)
ReadsWanted n holds list stil (Err stop.NoMemory) = ⊤

-- the same with the held inputs
pub record IsHeldCase (named : List HoldItem) (list stil : Option Text) (n : Netlist) (c : RunCase) : Type 0 where
  pub core : c.core ≡ n
  pub holds : named_holds n named (Ok c.holds)
  pub faults : marked_faults n list (Ok c.wanted.faults.items)
  pub first : first_patterns n c.holds stil (Ok c.wanted.first.items)

abbrev pub ReadsHeld : List HoldItem → Option Text → Option Text → Netlist → Result RunCase (Stop Refusal) → Type 0
ReadsHeld named list stil n (Ok c) = IsHeldCase named list stil n c
ReadsHeld named list stil n (Err (stop.Refused r)) = (options : RunOptions) → held_due options named list stil n (Refuse r)
ReadsHeld named list stil n (Err stop.NoMemory) = ⊤

-- and with the netlist
abbrev pub ReadsRun : List HoldItem → RunRead → Result RunCase (Stop Refusal) → Type 0
ReadsRun named read (Ok c) = netlist Design read.net (Ok c.core) × IsHeldCase named read.list read.stil c.core c
ReadsRun named read (Err (stop.Refused r)) = (options : RunOptions) → asked_due options named read (Refuse r)
ReadsRun named read (Err stop.NoMemory) = ⊤

-- the same of texts that may be too many or too few
abbrev pub ReadsTexts : List HoldItem → Option RunRead → Result RunCase (Stop Refusal) → Type 0
ReadsTexts named None result = ⊥
ReadsTexts named (Some read) result = ReadsRun named read result

-- ---- what a run rests on

pub record IsReady (c : RunCase) : Type 0 where
  pub design : IsDesign c.core
  pub held : AreHoldsOf c.core c.holds
  pub wanted : IsWanted c.core c.holds c.wanted
