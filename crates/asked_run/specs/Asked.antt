-- What `run` is asked for, by its words and by the texts that it reads.
use Rattle.std.specs.Prelude.{ℕ, ◌≡◌, ◌⊎◌, max, Bool, true, List, [], ◌∷◌, Option, Some, None, Result, Ok, Err, length, map, false, ◌<◌, ◌^◌}
use Rattle.bench_text.specs.Bytes.{lines}
use Rattle.bench_text.specs.declared.refusal.Names.TheVariants.{Design}
use Rattle.statement.specs.Benches.{Text}
use Rattle.statement.specs.Netlists.{Netlist}
use Rattle.netlist.specs.Designs.{IsDesign}
use Rattle.netlist.specs.Holds.{AreHoldsOf}
use Rattle.statement.specs.Faults.{universe_of}
use Rattle.statement.specs.Patterns.{Holds, Pattern}
use Rattle.statement.specs.Stils.{StilFile}
use Rattle.scan_insert.specs.Scanned.{scanned_of}
use Rattle.good_files.specs.ScanOff.{design_chains}
use Rattle.stil_read.specs.Reading.{StandsFor}
use Rattle.stil_vectors.specs.Fitting.{FitsNetlist}
use Rattle.stil_patterns.specs.Applied.{applied_in}
use Rattle.fault_marks.specs.Marks.{AreMarks, IsFirstStranger}
use Rattle.run_files.specs.Runs.{Asked, IsRun, files_of}
use Rattle.run_files.specs.declared.files.RunFiles.{RunFiles}
use Rattle.command_line.specs.CommandLine.{AreInRunRange}
use Rattle.command_line.specs.HoldLists.{HoldItem}
use Rattle.command_line.specs.declared.requests.RunOptions.{RunOptions}
use Rattle.commands.specs.Due.{Due, Deliver}
use Rattle.commands.specs.declared.ending.Finding.TheVariants.{Fine}
use Rattle.command_steps.specs.Runs.{tests_line, texts_in}
use Rattle.command_steps.specs.Ordering.{ordered_due}
use Rattle.command_steps.specs.Steps.{◌>>=◌, named_holds, netlist}
use Rattle.command_steps.specs.declared.refusal.Refusal.{Refusal}
use Rattle.command_steps.specs.declared.refusal.Refusal.TheVariants.{NoFaultAt, NotStil, StilDoesNotFit}
use Rattle.command_line.specs.declared.requests.EngineName.{EngineName}
use Rattle.command_line.specs.declared.requests.EngineName.TheVariants.{Trees, Clauses, TreesThenClauses}
use Rattle.std.specs.List.{All}
use Rattle.cubes.specs.Cubes.{IsPatternOf}
use Rattle.run_files.specs.declared.asked.Wanted.{Wanted}
use Rattle.run_files.specs.declared.asked.RunPlan.{RunPlan}

-- ---- the texts

-- the netlist's, and where they are read that of a list of faults and that of a STIL file
pub record RunRead : Type 0 where
  pub net : Text
  pub list : Option Text
  pub stil : Option Text

abbrev pub run_texts : Text → Option Text → Option Text → RunRead
run_texts net list stil = record { net = net; list = list; stil = stil }

-- which text is which, by the files that the words name
abbrev pub run_read : Option Text → Option Text → List Text → Option RunRead
run_read None None (net ∷ []) = Some (run_texts net None None)
run_read (Some name) None (net ∷ list ∷ []) = Some (run_texts net (Some list) None)
run_read None (Some name) (net ∷ stil ∷ []) = Some (run_texts net None (Some stil))
run_read (Some name) (Some other) (net ∷ list ∷ stil ∷ []) = Some (run_texts net (Some list) (Some stil))
run_read list first texts = None

-- ---- the faults that are asked for

abbrev pub all_faults : Netlist → List Bool
all_faults n = map (λ f. true) (universe_of n)

-- those that the list names, or all where there is none; refused for the first line that is no fault's text
abbrev pub marked_faults : Netlist → Option Text → Result (List Bool) Refusal → Type 0
marked_faults n None (Ok marks) = marks ≡ all_faults n
marked_faults n None (Err r) = ⊥
marked_faults n (Some text) (Ok marks) = AreMarks n (lines text) marks
marked_faults n (Some text) (Err r) = (number : ℕ) × (line : Text) × IsFirstStranger n (lines text) number line × (r ≡ NoFaultAt number)

-- ---- the patterns that come first

-- the chains of a design, as many as the file has
abbrev pub chains_of_file : Netlist → StilFile → List (List ℕ)
chains_of_file n file = design_chains n (max 1 (length file.chains))

-- the file fits the design, scanned into as many chains as the file has
abbrev pub FitsDesign : StilFile → Netlist → Type 0
FitsDesign file n = FitsNetlist file (scanned_of n (chains_of_file n file))

-- what the file applies of patterns that obey the held inputs, or none where there is no file; refused where it is none, or doesn't fit
abbrev pub first_patterns : Netlist → Holds → Option Text → Result (List Pattern) Refusal → Type 0
first_patterns n holds None (Ok patterns) = patterns ≡ []
first_patterns n holds None (Err r) = ⊥
first_patterns n holds (Some text) (Ok patterns) = (file : StilFile) × StandsFor text file × FitsDesign file n × (patterns ≡ applied_in n holds (chains_of_file n file) file)
first_patterns n holds (Some text) (Err r) =
    ((r ≡ NotStil) × ((file : StilFile) → ¬ StandsFor text file)) ⊎ ((file : StilFile) × StandsFor text file × (¬ FitsDesign file n) × (r ≡ StilDoesNotFit))

-- ---- engines

-- whether a certificate may have refutations: else it has trees alone
abbrev pub may_refute : EngineName → Bool
may_refute (Trees engine) = false
may_refute Clauses = true
may_refute (TreesThenClauses engine) = true

-- ---- the run

abbrev pub asked_of : RunOptions → Holds → List Bool → List Pattern → Asked
asked_of options holds marks first = record {
  holds = holds;
  chains = options.numbers.chains;
  limit = options.numbers.limit;
  refutes = may_refute options.engine;
  faults = marks;
  percent = options.percent;
  times = options.times;
  first = first;
}

abbrev pub texts_made : RunFiles → List Text
texts_made made = texts_in (files_of made)

-- the five texts of a run, and the line with the report's numbers
abbrev pub made_due : RunOptions → Netlist → Holds → List Bool → List Pattern → Due Refusal → Type 0
made_due options n holds marks first d =
    (made : RunFiles) × IsRun n (asked_of options holds marks first) made × (d ≡ Deliver (texts_made made) (tests_line made.said.counts) Fine)

-- the same of texts, step by step: the netlist, the held inputs, the list of faults, the STIL file
abbrev pub asked_due : RunOptions → List HoldItem → RunRead → Due Refusal → Type 0
asked_due options named read =
    netlist Design read.net >>= λ n. named_holds n named >>= λ holds. marked_faults n read.list >>= λ marks. first_patterns n holds read.stil >>= λ first. made_due options n holds marks first

abbrev pub asked_where : RunOptions → List HoldItem → Option RunRead → Due Refusal → Type 0
asked_where options named None = λ d. ⊥
asked_where options named (Some read) = asked_due options named read

-- the five texts of a run that is asked for so; by PODEM and FAN alone the certificate has trees alone
abbrev pub run_due : Option Text → Option Text → RunOptions → List HoldItem → List Text → Due Refusal → Type 0
run_due list first options named texts = asked_where options named (run_read list first texts)

-- the same options with so many chains
abbrev pub with_chains : RunOptions → ℕ → RunOptions
with_chains options chains = record options { numbers = record options.numbers { chains = chains } }

-- where an order of the cells is given, the same of the netlist in that order, in as many chains as it has
abbrev pub ordered_run_due : Option Text → Option Text → Option Text → RunOptions → List HoldItem → List Text → Due Refusal → Type 0
ordered_run_due order list first options named = ordered_due (λ chains. run_due list first (with_chains options chains) named) order options.numbers.chains

-- ---- what a run rests on

-- a mark for each fault, and not too many patterns, which obey
pub record IsWanted (n : Netlist) (holds : Holds) (w : Wanted) : Type 0 where
  pub faults : length w.faults.items ≡ length (universe_of n)
  pub first : All (IsPatternOf n holds) w.first.items
  pub few : length w.first.items < 2 ^ 27

-- a design with held inputs of its own, options in their ranges, and what is asked for of it
pub record MayAsk (n : Netlist) (holds : Holds) (options : RunOptions) (w : Wanted) : Type 0 where
  pub design : IsDesign n
  pub held : AreHoldsOf n holds
  pub range : AreInRunRange options
  pub wanted : IsWanted n holds w

-- the plan of a run
abbrev pub plan_of : RunOptions → RunPlan
plan_of options = record {
  chains = options.numbers.chains;
  workers = options.numbers.workers;
  limit = options.numbers.limit;
  seed = options.numbers.seed;
  percent = options.percent;
  rounds = options.rounds;
  times = options.times;
}
