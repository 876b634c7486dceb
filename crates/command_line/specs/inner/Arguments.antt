-- What a command becomes by its arguments, and the table by its commands.
use Rattle.std.specs.Prelude.{◌≡◌, ◌++◌, false, List, [], ◌∷◌, Result, IfOk, map}
use Rattle.clap.specs.Words.{App, Rule, Shape, app_of, shape_of, with_subcommand}
use Rattle.clap.specs.Simple.{on_top}
use Rattle.clap.specs.declared.builder.command.Command.{Command}
use Rattle.clap.specs.declared.builder.command.Command.TheViews.{out-Command as fields_of}
use Rattle.command_line.specs.declared.clap_table.Argument.{Argument}
use Rattle.command_line.specs.declared.clap_table.Argument.TheVariants as arguments
use Rattle.command_line.specs.declared.clap_table.Listed.{Listed}
use Rattle.command_line.specs.Table.{chaintest_command, check_command, command, diagnose_command, faults_command, grade_command, play_command, run_command, scan_command, sweep_command, transition_command, number_option, required, required_number, text_option}

-- what `clap` reads of an argument
abbrev pub asked_by : Argument → Rule
asked_by (arguments.Required name help) = required name.now
asked_by (arguments.RequiredNumber name low high help) = required_number name.now low high
asked_by (arguments.Text name help) = text_option name.now
asked_by (arguments.Number name low high help) = number_option name.now low high

-- what it reads of a command
abbrev pub shape_by : Listed → Shape
shape_by listed = command listed.name.now (map asked_by listed.arguments.now)

-- the commands of the table, in order
abbrev pub command_shapes : List Shape
command_shapes = scan_command ∷ faults_command ∷ run_command ∷ play_command ∷ check_command ∷ sweep_command ∷ chaintest_command ∷ diagnose_command ∷ transition_command ∷ grade_command ∷ []

abbrev pub with_subcommands : App → List Shape → App
with_subcommands app [] = app
with_subcommands app (shape ∷ shapes) = with_subcommands (with_subcommand app shape) shapes

abbrev pub with_rules : App → List Rule → App
with_rules app rules = on_top (λ (s : Shape). record s { rules = s.rules ++ rules }) app

-- A command got these arguments, none of which is global.
pub record Grows (before : Command) (rules : List Rule) (after : Command) : Type 0 where
  pub app : app_of after ≡ with_rules (app_of before) rules
  pub local : (fields_of after).has_globals ≡ (fields_of before).has_globals

-- A command of this shape, with no global argument.
pub record IsShaped (wanted : Shape) (c : Command) : Type 0 where
  pub shape : shape_of c ≡ wanted
  pub local : (fields_of c).has_globals ≡ false

-- A table got one more command, where there was memory for it.
pub record Adds {E : Type 0} (table : Command) (command result : Result Command E) : Type 0 where
  pub app : (shape : Shape) → IfOk command (IsShaped shape) → IfOk result (λ c. app_of c ≡ with_subcommand (app_of table) shape)
