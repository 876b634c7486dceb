-- The table is made as it is written, and is one of which `clap`'s rule speaks.
use Rattle.std.proofs.Common.{◌≡◌, ◌<◌, ◌≤◌, ◌+◌, ℕ, Bool, Bor, List, [], ◌∷◌, ◌++◌, Option, Some, Result, Ok, Err, IfOk, ap, ap₂, sym, ◌∙◌, true, false, refl, length, get_or, drop, drop_of_length-le, take, map, append_assoc, append-nil}
use Rattle.std.specs.Prelude.{◌||◌}
use Rattle.std.proofs.lemmas.List.{at_drop_more, map_push, take_more}
use Rattle.std.proofs.lemmas.Result.{IfOk-weaker}
use Rattle.clap.specs.Words.{AddsArg, AddsSubcommand, App, Rule, Shape, Text, app_of, is_simple, new_app, rule_of, with_rule, with_subcommand}
use Rattle.clap.specs.Faults.{is_simple_and_free}
use Rattle.clap.specs.Simple.{app_of_fields, on_top}
use Rattle.clap.specs.declared.builder.arg.Arg.{Arg}
use Rattle.clap.specs.declared.builder.command.Command.{Command}
use Rattle.clap.specs.declared.builder.command.Command.TheOpen.{Command-F}
use Rattle.clap.specs.declared.builder.command.Command.TheViews.{out-Command as fields_of}
use Rattle.command_line.specs.declared.clap_table.Argument.{Argument}
use Rattle.command_line.specs.declared.clap_table.Listed.{Listed}
use Rattle.command_line.specs.Table.{command, command_table, program}
use Rattle.command_line.specs.inner.Arguments.{Adds, Grows, IsShaped, asked_by, command_shapes, shape_by, with_rules, with_subcommands}

-- ---- a setting changes one field of many. The fields are a variable here: compared as a command's own, each one that differs would be unfolded first

module _ (f : Command-F Command) where
  about_apart : (about : Option (Bor Text)) → app_of_fields (record f { about = about }) ≡ app_of_fields f
  about_apart about = refl

  version_apart : (text : Bor Text) → app_of_fields (record f { version = Some text }) ≡ on_top (λ (s : Shape). record s { has_version = true }) (app_of_fields f)
  version_apart text = refl

  help_apart : app_of_fields (record f { disable_help_subcommand = true }) ≡ on_top (λ (s : Shape). record s { disable_help_subcommand = true }) (app_of_fields f)
  help_apart = refl

  required_apart : app_of_fields (record f { subcommand_required = true }) ≡ on_top (λ (s : Shape). record s { subcommand_required = true }) (app_of_fields f)
  required_apart = refl

  name_apart : (g : Command-F Command) → app_of_fields (record f { bin_name = g.bin_name }) ≡ app_of_fields f
  name_apart g = refl

module _ (old new : Command) where
  pub about_local : (about : Option (Bor Text)) → fields_of new ≡ record (fields_of old) { about = about } → (fields_of new).has_globals ≡ (fields_of old).has_globals
  about_local about is = ap (λ (f : Command-F Command). f.has_globals) is

  pub with_about : (about : Option (Bor Text)) → fields_of new ≡ record (fields_of old) { about = about } → app_of new ≡ app_of old
  with_about about is = ap app_of_fields is ∙ about_apart (fields_of old) about

  pub with_version : (text : Bor Text) → fields_of new ≡ record (fields_of old) { version = Some text } → app_of new ≡ on_top (λ (s : Shape). record s { has_version = true }) (app_of old)
  with_version text is = ap app_of_fields is ∙ version_apart (fields_of old) text

  pub with_no_help : fields_of new ≡ record (fields_of old) { disable_help_subcommand = true } → app_of new ≡ on_top (λ (s : Shape). record s { disable_help_subcommand = true }) (app_of old)
  with_no_help is = ap app_of_fields is ∙ help_apart (fields_of old)

  pub with_required : fields_of new ≡ record (fields_of old) { subcommand_required = true } → app_of new ≡ on_top (λ (s : Shape). record s { subcommand_required = true }) (app_of old)
  with_required is = ap app_of_fields is ∙ required_apart (fields_of old)

  pub with_name : fields_of new ≡ record (fields_of old) { bin_name = (fields_of new).bin_name } → app_of new ≡ app_of old
  with_name is = ap app_of_fields is ∙ name_apart (fields_of old) (fields_of new)

-- ---- a command grows by one argument after the other. Names and arguments are variables here, so that no proof about a command computes with them

module _ (app : App) where
  abbrev put : List Rule → App
  put rules = record app { top = record app.top { rules = rules } }

  none_yet : app ≡ with_rules app []
  none_yet = ap put (sym (append-nil app.top.rules))

  one_more : (rules : List Rule) (rule : Rule) → with_rule (with_rules app rules) rule ≡ with_rules app (rules ++ rule ∷ [])
  one_more rules rule = ap put (append_assoc app.top.rules rules (rule ∷ []))

not_global : (b : Bool) → (b || false) ≡ b
not_global true = refl
not_global false = refl

pub begun : (c : Command) → Grows c [] c
begun c = record {
  app = none_yet (app_of c);
  local = refl;
}

-- by the argument at this place
pub grown : (start before after : Command) (arguments : List Argument) (i : ℕ) (none : Argument) (a : Arg) → i < length arguments
    → Grows start (map asked_by (take i arguments)) before → rule_of a ≡ asked_by (get_or arguments i none) → a.global ≡ false → AddsArg before a after
    → Grows start (map asked_by (take (i + 1) arguments)) after
grown start before after arguments i none a within so asked local added =
    let rules = map asked_by (take i arguments) in
    let here = get_or arguments i none in
    let more : rules ++ asked_by here ∷ [] ≡ map asked_by (take (i + 1) arguments) =
    sym (map_push asked_by (take i arguments) here) ∙ ap (map asked_by) (sym (take_more arguments i none within)) in
    record {
      app = added.shape local ∙ ap₂ with_rule so.app asked ∙ one_more (app_of start) rules (asked_by here) ∙ ap (with_rules (app_of start)) more;
      local = added.globals ∙ ap (λ b. (fields_of before).has_globals || b) local ∙ not_global (fields_of before).has_globals ∙ so.local;
    }

-- a command with no argument yet
pub started : (name : Text) (c : Command) → app_of c ≡ new_app name → (fields_of c).has_globals ≡ false → IsShaped (command name []) c
started name c is local = record {
  shape = ap (λ (a : App). a.top) is;
  local = local;
}

pub shaped : {E : Type 0} (name : Text) (rules more : List Rule) (c : Command) (r : Result Command E) → IsShaped (command name rules) c → IfOk r (Grows c more)
    → IfOk r (IsShaped (command name (rules ++ more)))
shaped name rules more c r is grows =
    IfOk-weaker r (Grows c more) (IsShaped (command name (rules ++ more)))
    (λ k g. record { shape = ap (λ (a : App). a.top) g.app ∙ ap (λ (s : Shape). record s { rules = s.rules ++ more }) is.shape; local = g.local ∙ is.local }) grows

-- ---- the table grows by one command after the other

pub adds : {E : Type 0} (table command : Command) (c r : Result Command E) → c ≡ Ok command → IfOk r (AddsSubcommand table command) → Adds table c r
adds table command c r is added = record {
  app = λ shape here.
      let sub : IsShaped shape command = rw is at here in
      IfOk-weaker r (AddsSubcommand table command) (λ k. app_of k ≡ with_subcommand (app_of table) shape) (λ k g. g.shape sub.local ∙ ap (with_subcommand (app_of table)) sub.shape) added;
}

pub adds_none : {E : Type 0} (table : Command) (c : Result Command E) (e : E) → Adds table c (Err e)
adds_none table c e = record { app = λ shape here. tt }

-- with the commands from a place on, it is the whole
pub record IsSoFar (commands : List Listed) (i : ℕ) (all app : App) : Type 0 where
  pub rest : with_subcommands app (map shape_by (drop i commands)) ≡ all

pub begun_table : (commands : List Listed) (app : App) → app ≡ program → IsSoFar commands 0 (with_subcommands program (map shape_by commands)) app
begun_table commands app is = record { rest = ap (λ (a : App). with_subcommands a (map shape_by commands)) is }

pub one_added : (commands : List Listed) (i : ℕ) (none : Listed) (all before after : App) → i < length commands → IsSoFar commands i all before
    → after ≡ with_subcommand before (shape_by (get_or commands i none)) → IsSoFar commands (i + 1) all after
one_added commands i none all before after within so is = record {
  rest = ap (λ (a : App). with_subcommands a (map shape_by (drop (i + 1) commands))) is
      ∙ sym (at_drop_more (λ (ls : List Listed). with_subcommands before (map shape_by ls)) commands i none within) ∙ so.rest;
}

pub all_added : (commands : List Listed) (i : ℕ) (all app : App) → length commands ≤ i → IsSoFar commands i all app → app ≡ all
all_added commands i all app past so = ap (λ (ls : List Listed). with_subcommands app (map shape_by ls)) (sym (drop_of_length-le commands past)) ∙ so.rest

pub is_table : with_subcommands program command_shapes ≡ command_table
unfolding command_table
is_table = refl

-- ---- what `clap`'s rule asks of it

pub table_is_simple : is_simple command_table ≡ true
unfolding command_table
table_is_simple = refl

pub table_is_free : is_simple_and_free command_table ≡ true
unfolding command_table
table_is_free = refl
