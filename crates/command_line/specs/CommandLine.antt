-- What a command line asks for.
use Rattle.std.specs.Prelude.{◌≤◌, ◌==◌, ◌||◌, ◌++◌, ⊤, ℕ, Bool, List, [], ◌∷◌, Option, Some, None, if◌then◌else◌, codes, length, map, nat_eq}
use Rattle.std.specs.Prelude.{Result, Ok, Err, option_and_then, option_map}
use Rattle.std.specs.List.{ends_with, find, list_any}
use Rattle.std.specs.Option.{ok_or, option_to_list}
use Rattle.std.specs.Str.{bytes_eq}
use Rattle.plain_text.specs.Limits.{most_chains, most_workers, most_limit, fewest_gates, most_gates}
use Rattle.clap.specs.Words.{Kinds, Row, Text, first_of, subcommand_of}
use Rattle.clap.specs.Faults.{fault_of}
use Rattle.commands.specs.Names.{run_files}
use Rattle.command_line.specs.Numbers.{number_in}
use Rattle.command_line.specs.HoldLists.{HoldItem, holds_in}
use Rattle.command_line.specs.Table.{command_table, most_percent, most_rank, most_rounds, most_seed, most_times}
use Rattle.command_line.specs.declared.holds.Held.{Held}
use Rattle.command_line.specs.declared.requests.EngineName.{EngineName}
use Rattle.command_line.specs.declared.requests.EngineName.TheVariants.{Trees, Clauses, TreesThenClauses}
use Rattle.command_line.specs.declared.requests.TreeEngine.{TreeEngine}
use Rattle.command_line.specs.declared.requests.TreeEngine.TheVariants.{Podem, Fan}
use Rattle.command_line.specs.declared.requests.SearchNumbers.{SearchNumbers}
use Rattle.command_line.specs.declared.requests.SlowOptions.{SlowOptions}
use Rattle.command_line.specs.declared.requests.RunOptions.{RunOptions}
use Rattle.command_line.specs.declared.requests.DiagnoseOptions.{DiagnoseOptions}
use Rattle.command_line.specs.declared.requests.Request.{Request}
use Rattle.command_line.specs.declared.requests.Request.TheVariants as request

pub data CommandLine : Type 0 where
  -- the netlist's file, the file to write, how many chains at most, and the file of the order of the cells, where that is given in place of the number
  scan : Text → Text → ℕ → Option Text → CommandLine
  -- the netlist's file
  faults : Text → CommandLine
  -- the netlist's file, what the names of the files written begin with, the file of the order of the cells, the file that lists the faults which are asked for,
  -- and the STIL file whose patterns come first, or what its name begins with; the engine and the numbers, and the inputs that are held
  run : Text → Text → Option Text → Option Text → Option Text → RunOptions → List HoldItem → CommandLine
  -- the netlist's file, the STIL file, and the text of a fault
  play : Text → Text → Option Text → CommandLine
  -- what the names of the files read begin with
  check : Text → CommandLine
  -- the seed of a sample netlist, and its gates
  sweep : ℕ → ℕ → CommandLine
  -- the netlist's file, the STIL file, and how many chains at most
  chaintest : Text → Text → ℕ → CommandLine
  -- the design's file, the STIL file, the file of the tester's log, and the numbers
  diagnose : Text → Text → Text → DiagnoseOptions → CommandLine
  -- the netlist's file, what the names of the files written begin with, the engine and the numbers, and the inputs that are held
  transition : Text → Text → SlowOptions → List HoldItem → CommandLine
  -- the design's file, the STIL file, what the name of the file written begins with, and how many chains at most
  grade : Text → Text → Text → ℕ → CommandLine

-- Why words are no command line: by `clap`'s rule, or the form or range of a value; or, all else being in order, by the list of held inputs; or, that
-- too being in order, by what the names of the files written begin with, or by the name of a file that is read and would be written over.
pub data NoLine : Type 0 where
  bad_words : NoLine
  bad_hold : NoLine
  bad_prefix : Text → NoLine
  writes_over : Text → NoLine

-- ---- files

-- the name of a STIL file, by itself or by what stands before `.stil`
abbrev pub stil_file : Text → Text
stil_file given = if ends_with nat_eq given (codes ".stil") then given else given ++ codes ".stil"

-- those that `scan` reads: the netlist's, and where it is given that of the order
abbrev pub scan_reads : Text → Option Text → List Text
scan_reads net order = net ∷ option_to_list order

-- those that `run` reads: the netlist's, and where they are given that of the order, that of the list of faults and that of the STIL file
abbrev pub run_reads : Text → Option Text → Option Text → Option Text → List Text
run_reads net order list first = net ∷ option_to_list order ++ option_to_list list ++ option_to_list (option_map stil_file first)

-- the names of the files that a command line reads, in order
abbrev pub reads : CommandLine → List Text
reads (scan net to chains order) = scan_reads net order
reads (faults net) = net ∷ []
reads (run net prefix order list first options holds) = run_reads net order list first
reads (play net stil fault) = net ∷ stil ∷ []
reads (check prefix) = run_files prefix
reads (sweep seed gates) = []
reads (chaintest net stil chains) = net ∷ stil ∷ []
reads (diagnose net stil log options) = net ∷ stil ∷ log ∷ []
reads (transition net prefix options holds) = net ∷ []
reads (grade net stil prefix chains) = net ∷ stil ∷ []

-- the name of the file of grades
abbrev pub grade_file : Text → Text
grade_file prefix = prefix ++ codes ".grade"

-- the names of the files that it writes, in order
abbrev pub writes : CommandLine → List Text
writes (scan net to chains order) = to ∷ []
writes (run net prefix order list first options holds) = run_files prefix
writes (transition net prefix options holds) = run_files prefix
writes (grade net stil prefix chains) = grade_file prefix ∷ []
writes _ = []

-- the first that it reads and would write over
abbrev pub written_over : CommandLine → Option Text
written_over line = find (λ name. list_any (bytes_eq name) (writes line)) (reads line)

-- nothing, or a folder's name alone: files with such a prefix would be hidden
abbrev pub is_nameless : Text → Bool
is_nameless prefix = length prefix == 0 || ends_with nat_eq prefix (codes "/")

abbrev pub if_nameless : Text → Option Text
if_nameless prefix = if is_nameless prefix then Some prefix else None

-- what the names of the files written begin with, where that leaves them nameless
abbrev pub nameless_prefix : CommandLine → Option Text
nameless_prefix (run net prefix order list first options holds) = if_nameless prefix
nameless_prefix (transition net prefix options holds) = if_nameless prefix
nameless_prefix (grade net stil prefix chains) = if_nameless prefix
nameless_prefix _ = None

abbrev pub line_where : CommandLine → Option Text → Option Text → Result CommandLine NoLine
line_where line (Some prefix) over = Err (bad_prefix prefix)
line_where line None (Some name) = Err (writes_over name)
line_where line None None = Ok line

-- where the names of its files are in order, the command line
abbrev pub line_with_files : Result CommandLine NoLine → Result CommandLine NoLine
line_with_files (Ok line) = line_where line (nameless_prefix line) (written_over line)
line_with_files (Err cause) = Err cause

-- ---- values

-- the number that an option's text writes, or `default` where the option isn't there
abbrev pub number_given : ℕ → ℕ → ℕ → Option Text → Option ℕ
number_given default low high None = Some default
number_given default low high (Some text) = number_in low high text

abbrev pub number_at : Text → ℕ → ℕ → ℕ → List Row → Option ℕ
number_at name default low high rows = number_given default low high (first_of name rows)

-- the number that an option's text writes, where the option is there
abbrev pub number_where : ℕ → ℕ → Option Text → Option (Option ℕ)
number_where low high None = Some None
number_where low high (Some text) = option_map (λ n. Some n) (number_in low high text)

abbrev pub number_if : Text → ℕ → ℕ → List Row → Option (Option ℕ)
number_if name low high rows = number_where low high (first_of name rows)

-- the number that must be there
abbrev pub number_of : Text → ℕ → ℕ → List Row → Option ℕ
number_of name low high rows = option_and_then (number_in low high) (first_of name rows)

-- the file of an order, if there is one; it says how many chains there are, so that a number of chains doesn't go with it
abbrev pub order_given : Option Text → Option Text → Option (Option Text)
order_given chains None = Some None
order_given None (Some order) = Some (Some order)
order_given (Some chains) (Some order) = None

abbrev pub order_of : List Row → Option (Option Text)
order_of rows = order_given (first_of (codes "chains") rows) (first_of (codes "order") rows)

abbrev pub scan_with : List Row → Option Text → Option CommandLine
scan_with rows order = option_and_then (λ net. option_and_then (λ out.
    option_map (λ chains. scan net out chains order) (number_at (codes "chains") 1 1 most_chains rows))
    (first_of (codes "OUT") rows)) (first_of (codes "NET") rows)

abbrev pub scan_of : List Row → Option CommandLine
scan_of rows = option_and_then (scan_with rows) (order_of rows)

abbrev pub faults_line_of : List Row → Option CommandLine
faults_line_of rows = option_map (λ net. faults net) (first_of (codes "NET") rows)

-- the search by trees of this name, `podem` where none is given
abbrev pub tree_engine_given : Option Text → Option TreeEngine
tree_engine_given None = Some Podem
tree_engine_given (Some text) =
    if bytes_eq text (codes "podem") then Some Podem
    else if bytes_eq text (codes "fan") then Some Fan
    else None

-- `clauses`, or a search by trees
abbrev pub engine_alone_given : Option Text → Option EngineName
engine_alone_given None = Some (Trees Podem)
engine_alone_given (Some text) =
    if bytes_eq text (codes "clauses") then Some Clauses
    else option_map Trees (tree_engine_given (Some text))

-- the engine of this name, and behind one by trees may follow `clauses`
abbrev pub engine_given : Option Text → Option Text → Option EngineName
engine_given name None = engine_alone_given name
engine_given name (Some behind) = if bytes_eq behind (codes "clauses") then option_map TreesThenClauses (tree_engine_given name) else None

-- the numbers of a command that searches, 1, 1, 100 and 1 where they aren't given
abbrev pub numbers_of : List Row → Option SearchNumbers
numbers_of rows = option_and_then (λ chains. option_and_then (λ workers. option_and_then (λ limit.
    option_map (λ seed. record { chains = chains; workers = workers; limit = limit; seed = seed })
    (number_at (codes "seed") 1 0 most_seed rows))
    (number_at (codes "limit") 100 1 most_limit rows))
    (number_at (codes "workers") 1 1 most_workers rows))
    (number_at (codes "chains") 1 1 most_chains rows)

-- the netlist's file, what the names of the files written begin with, and the numbers
abbrev pub Search : Type 0
Search = Text × Text × SearchNumbers

-- what `run` and `transition` are given alike
abbrev pub search_of : List Row → Option Search
search_of rows = option_and_then (λ net. option_and_then (λ prefix.
    option_map (λ numbers. (net, prefix, numbers)) (numbers_of rows))
    (first_of (codes "PREFIX") rows)) (first_of (codes "NET") rows)

abbrev pub holds_given : Option Text → Option (List HoldItem)
holds_given None = Some []
holds_given (Some text) = holds_in text

-- the engine and the numbers, how many in a hundred are enough, the rounds, 3 where they aren't given, and how many patterns are to detect each fault, else 1
abbrev pub run_options_with : List Row → SearchNumbers → EngineName → Option RunOptions
run_options_with rows numbers engine = option_and_then (λ percent. option_and_then (λ rounds.
    option_map (λ times. record { engine = engine; numbers = numbers; percent = percent; rounds = rounds; times = times })
    (number_at (codes "detect") 1 1 most_times rows))
    (number_at (codes "compact") 3 0 most_rounds rows))
    (number_if (codes "coverage") 1 most_percent rows)

abbrev pub run_options_of : List Row → SearchNumbers → Option RunOptions
run_options_of rows numbers = option_and_then (run_options_with rows numbers) (engine_given (first_of (codes "engine") rows) (first_of (codes "then") rows))

abbrev pub run_by : List Row → Option Text → Search → Option RunOptions → Option (List HoldItem) → Result CommandLine NoLine
run_by rows order s (Some options) (Some holds) = Ok (run s.0 s.1 order (first_of (codes "faults") rows) (first_of (codes "with") rows) options holds)
run_by rows order s (Some options) None = Err bad_hold
run_by rows order s None holds = Err bad_words

abbrev pub run_where : List Row → Option (Option Text) → Option Search → Option (List HoldItem) → Result CommandLine NoLine
run_where rows (Some order) (Some s) holds = run_by rows order s (run_options_of rows s.2) holds
run_where rows (Some order) None holds = Err bad_words
run_where rows None s holds = Err bad_words

abbrev pub run_of : List Row → Result CommandLine NoLine
run_of rows = run_where rows (order_of rows) (search_of rows) (holds_given (first_of (codes "hold") rows))

abbrev pub transition_by : Option EngineName → Option Search → Option (List HoldItem) → Result CommandLine NoLine
transition_by (Some engine) (Some s) (Some holds) = Ok (transition s.0 s.1 (record { engine = engine; numbers = s.2 }) holds)
transition_by (Some engine) (Some s) None = Err bad_hold
transition_by (Some engine) None holds = Err bad_words
transition_by None s holds = Err bad_words

abbrev pub transition_of : List Row → Result CommandLine NoLine
transition_of rows = transition_by (engine_given (first_of (codes "engine") rows) (first_of (codes "then") rows)) (search_of rows) (holds_given (first_of (codes "hold") rows))

abbrev pub play_of : List Row → Option CommandLine
play_of rows = option_and_then (λ net. option_map (λ stil. play net stil (first_of (codes "fault") rows))
    (first_of (codes "STIL") rows)) (first_of (codes "NET") rows)

abbrev pub check_of : List Row → Option CommandLine
check_of rows = option_map (λ prefix. check prefix) (first_of (codes "PREFIX") rows)

abbrev pub sweep_of : List Row → Option CommandLine
sweep_of rows = option_and_then (λ seed. option_map (λ gates. sweep seed gates)
    (number_of (codes "GATES") fewest_gates most_gates rows)) (number_of (codes "SEED") 0 most_seed rows)

abbrev pub chaintest_of : List Row → Option CommandLine
chaintest_of rows = option_and_then (λ net. option_and_then (λ stil.
    option_map (λ chains. chaintest net stil chains) (number_at (codes "chains") 1 1 most_chains rows))
    (first_of (codes "STIL") rows)) (first_of (codes "NET") rows)

abbrev pub diagnose_of : List Row → Option CommandLine
diagnose_of rows = option_and_then (λ net. option_and_then (λ stil. option_and_then (λ log. option_and_then (λ chains.
    option_and_then (λ workers. option_map (λ rank. diagnose net stil log (record { chains = chains; workers = workers; rank = rank }))
    (number_if (codes "rank") 1 most_rank rows))
    (number_at (codes "workers") 1 1 most_workers rows))
    (number_at (codes "chains") 1 1 most_chains rows))
    (first_of (codes "LOG") rows)) (first_of (codes "STIL") rows)) (first_of (codes "NET") rows)

abbrev pub grade_of : List Row → Option CommandLine
grade_of rows = option_and_then (λ net. option_and_then (λ stil. option_and_then (λ prefix.
    option_map (λ chains. grade net stil prefix chains) (number_at (codes "chains") 1 1 most_chains rows))
    (first_of (codes "PREFIX") rows)) (first_of (codes "STIL") rows)) (first_of (codes "NET") rows)

-- a command whose values have their form and are in their range, or bad words
abbrev pub line_from : Option CommandLine → Result CommandLine NoLine
line_from line = ok_or line bad_words

-- what a command asks for, by its name and the rows of values that `clap`'s rule gives for it
unfoldable pub line_by : Text → List Row → Result CommandLine NoLine
line_by name rows =
    if bytes_eq name (codes "scan") then line_from (scan_of rows)
    else if bytes_eq name (codes "faults") then line_from (faults_line_of rows)
    else if bytes_eq name (codes "run") then run_of rows
    else if bytes_eq name (codes "play") then line_from (play_of rows)
    else if bytes_eq name (codes "check") then line_from (check_of rows)
    else if bytes_eq name (codes "sweep") then line_from (sweep_of rows)
    else if bytes_eq name (codes "chaintest") then line_from (chaintest_of rows)
    else if bytes_eq name (codes "diagnose") then line_from (diagnose_of rows)
    else if bytes_eq name (codes "transition") then transition_of rows
    else if bytes_eq name (codes "grade") then line_from (grade_of rows)
    else Err bad_words

abbrev pub command_line_at : Option (Text × List Row) → Result CommandLine NoLine
command_line_at None = Err bad_words
command_line_at (Some p) = line_by p.0 p.1

-- where no step of the parse fails, what the command asks for
abbrev pub line_where_taken : Kinds → Option (Text × List Row) → Result CommandLine NoLine
line_where_taken [] command = command_line_at command
line_where_taken (k ∷ ks) command = Err bad_words

-- the words are a command line: `clap`'s rule for simple commands takes them, no step of the parse
-- failing, each value of the command that it names has its form and is in its range, and the names of its files are in order
unfoldable pub command_line : List Text → Result CommandLine NoLine
command_line words =
    line_with_files (line_where_taken (fault_of command_table words) (subcommand_of command_table words))

-- an input's name, and the bit at which it is held
abbrev pub hold_of : Held → HoldItem
hold_of held = (held.name.now, held.bit)

-- the command line that a request is
abbrev pub command_line_of : Request → CommandLine
command_line_of (request.Scan net out chains order) = scan net.now out.now chains (option_map (λ t. t.now) order)
command_line_of (request.Faults net) = faults net.now
command_line_of (request.Run names options holds) =
    run names.net.now names.prefix.now (option_map (λ t. t.now) names.order) (option_map (λ t. t.now) names.list) (option_map (λ t. t.now) names.first) options (map hold_of holds.items)
command_line_of (request.Play net stil fault) = play net.now stil.now (option_map (λ t. t.now) fault)
command_line_of (request.Check prefix) = check prefix.now
command_line_of (request.Sweep seed gates) = sweep seed gates
command_line_of (request.ChainTest net stil chains) = chaintest net.now stil.now chains
command_line_of (request.Diagnose net stil log options) = diagnose net.now stil.now log.now options
command_line_of (request.Transition net prefix options holds) = transition net.now prefix.now options (map hold_of holds.items)
command_line_of (request.Grade net stil prefix chains) = grade net.now stil.now prefix.now chains

pub record AreInRange (numbers : SearchNumbers) : Type 0 where
  pub chains : (1 ≤ numbers.chains) × (numbers.chains ≤ most_chains)
  pub workers : (1 ≤ numbers.workers) × (numbers.workers ≤ most_workers)
  pub limit : (1 ≤ numbers.limit) × (numbers.limit ≤ most_limit)

-- the number, where there is one, is in this range
abbrev pub IfIn : ℕ → ℕ → Option ℕ → Type 0
IfIn low high None = ⊤
IfIn low high (Some n) = (low ≤ n) × (n ≤ high)

pub record AreInRunRange (options : RunOptions) : Type 0 where
  pub numbers : AreInRange options.numbers
  pub percent : IfIn 1 most_percent options.percent
  pub rounds : options.rounds ≤ most_rounds
  pub times : (1 ≤ options.times) × (options.times ≤ most_times)

pub record AreWithin (options : DiagnoseOptions) : Type 0 where
  pub chains : (1 ≤ options.chains) × (options.chains ≤ most_chains)
  pub workers : (1 ≤ options.workers) × (options.workers ≤ most_workers)
  pub rank : IfIn 1 most_rank options.rank

-- each number of a request is in its range
abbrev pub IsInRange : Request → Type 0
IsInRange (request.Scan net out chains order) = (1 ≤ chains) × (chains ≤ most_chains)
IsInRange (request.Run names options holds) = AreInRunRange options
IsInRange (request.Sweep seed gates) = (fewest_gates ≤ gates) × (gates ≤ most_gates)
IsInRange (request.ChainTest net stil chains) = (1 ≤ chains) × (chains ≤ most_chains)
IsInRange (request.Diagnose net stil log options) = AreWithin options
IsInRange (request.Transition net prefix options holds) = AreInRange options.numbers
IsInRange (request.Grade net stil prefix chains) = (1 ≤ chains) × (chains ≤ most_chains)
IsInRange _ = ⊤
