-- The table of commands, in the terms of `clap`: what a parse reads of a command.
use Rattle.std.specs.Prelude.{ℕ, ◌++◌, true, false, List, [], ◌∷◌, Some, codes}
use Rattle.plain_text.specs.Limits.{most_chains, most_workers, most_limit, fewest_gates, most_gates}
use Rattle.clap.specs.Words.{App, Rule, Shape, Text, new_rule}
use Rattle.clap.specs.Simple.{new_shape}
use Rattle.clap.specs.declared.builder.value_parser.ValueParser.TheVariants.{Unsigned}

-- a value that must be there, known by its place
abbrev pub required : Text → Rule
required id = record (new_rule id) { required = true }

-- `--name text` or `--name=text`
abbrev pub text_option : Text → Rule
text_option name = record (new_rule name) { long = Some name }

-- `--name number` or `--name=number`, from low to high. `clap` takes a plus and zeros in front
-- of a number, so what its rule takes is read once more, by `number_in`
abbrev pub number_option : Text → ℕ → ℕ → Rule
number_option name low high = record (text_option name) { parser = Some (Unsigned low high) }

-- a number that must be there, known by its place, from low to high
abbrev pub required_number : Text → ℕ → ℕ → Rule
required_number id low high = record (required id) { parser = Some (Unsigned low high) }

-- a command, by its name and its arguments
abbrev pub command : Text → List Rule → Shape
command name rules = record (new_shape name) { rules = rules }

-- the most that a seed can be, 2 ^ 64 - 1
abbrev pub most_seed : ℕ
most_seed = 18446744073709551615

-- the most faults that are asked for by number
abbrev pub most_rank : ℕ
most_rank = 18446744073709551615

-- the most faults in a hundred that are asked for by number, so that all are
abbrev pub most_percent : ℕ
most_percent = 100

-- scan NET OUT [--chains C] [--order FILE]
abbrev pub scan_command : Shape
scan_command = command (codes "scan")
    (required (codes "NET") ∷ required (codes "OUT") ∷ number_option (codes "chains") 1 most_chains ∷ text_option (codes "order") ∷ [])

-- faults NET
abbrev pub faults_command : Shape
faults_command = command (codes "faults") (required (codes "NET") ∷ [])

-- what `run` and `transition` have alike: NET PREFIX [--chains C] [--workers N] [--limit L] [--seed S]
abbrev pub search_rules : List Rule
search_rules =
    required (codes "NET") ∷ required (codes "PREFIX") ∷ number_option (codes "chains") 1 most_chains
    ∷ number_option (codes "workers") 1 most_workers ∷ number_option (codes "limit") 1 most_limit
    ∷ number_option (codes "seed") 0 most_seed ∷ []

-- the most rounds that make the patterns fewer
abbrev pub most_rounds : ℕ
most_rounds = 100

-- the most patterns that each fault is to be detected by
abbrev pub most_times : ℕ
most_times = 100

-- what `run` has of its own: [--engine E] [--then E] [--hold LIST] [--faults FILE] [--coverage P] [--with FILE] [--compact K] [--detect N] [--order FILE]
abbrev pub run_rules : List Rule
run_rules =
    text_option (codes "engine") ∷ text_option (codes "then") ∷ text_option (codes "hold") ∷ text_option (codes "faults")
    ∷ number_option (codes "coverage") 1 most_percent ∷ text_option (codes "with") ∷ number_option (codes "compact") 0 most_rounds
    ∷ number_option (codes "detect") 1 most_times ∷ text_option (codes "order") ∷ []

-- run NET PREFIX ..
abbrev pub run_command : Shape
run_command = command (codes "run") (search_rules ++ run_rules)

-- play NET STIL [--fault F]
abbrev pub play_command : Shape
play_command = command (codes "play") (required (codes "NET") ∷ required (codes "STIL") ∷ text_option (codes "fault") ∷ [])

-- check PREFIX
abbrev pub check_command : Shape
check_command = command (codes "check") (required (codes "PREFIX") ∷ [])

-- sweep SEED GATES
abbrev pub sweep_command : Shape
sweep_command = command (codes "sweep")
    (required_number (codes "SEED") 0 most_seed ∷ required_number (codes "GATES") fewest_gates most_gates ∷ [])

-- chaintest NET STIL [--chains C]
abbrev pub chaintest_command : Shape
chaintest_command = command (codes "chaintest")
    (required (codes "NET") ∷ required (codes "STIL") ∷ number_option (codes "chains") 1 most_chains ∷ [])

-- diagnose NET STIL LOG [--chains C] [--workers N] [--rank K]
abbrev pub diagnose_command : Shape
diagnose_command = command (codes "diagnose")
    (required (codes "NET") ∷ required (codes "STIL") ∷ required (codes "LOG") ∷ number_option (codes "chains") 1 most_chains
    ∷ number_option (codes "workers") 1 most_workers ∷ number_option (codes "rank") 1 most_rank ∷ [])

-- transition NET PREFIX .. [--engine E] [--then E] [--hold LIST]
abbrev pub transition_command : Shape
transition_command = command (codes "transition") (search_rules ++ text_option (codes "engine") ∷ text_option (codes "then") ∷ text_option (codes "hold") ∷ [])

-- grade NET STIL PREFIX [--chains C]
abbrev pub grade_command : Shape
grade_command = command (codes "grade")
    (required (codes "NET") ∷ required (codes "STIL") ∷ required (codes "PREFIX") ∷ number_option (codes "chains") 1 most_chains ∷ [])

-- the program, before its commands: it has a version and needs a command, and `help` is none
abbrev pub program : App
program = record {
  top = record (new_shape (codes "atpg")) {
    disable_help_subcommand = true;
    has_version = true;
    subcommand_required = true;
  };
  subs = [];
}

unfoldable pub command_table : App
command_table = record {
  top = record program.top { is_leaf = false };
  subs = scan_command ∷ faults_command ∷ run_command ∷ play_command ∷ check_command ∷ sweep_command ∷ chaintest_command ∷ diagnose_command ∷ transition_command ∷ grade_command ∷ [];
}
