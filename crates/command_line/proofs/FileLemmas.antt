-- The names of a line's files.
use Rattle.std.proofs.Common.{◌≡◌, ◌∙◌, ℕ, zero, suc, ◌+◌, ◌<◌, ◌≤◌, Bool, true, false, List, [], ◌∷◌, Option, Some, None, Result, Ok, Err, add-one, ap, ap₂, arith, drop, drop-cons, drop_of_length-le, get_or, length, refl, subst, sym}
use Rattle.std.specs.Prelude.{cond}
use Rattle.std.specs.List.{Contains, find, list_any}
use Rattle.std.specs.Str.{bytes_eq}
use Rattle.std.proofs.lemmas.List.Folds.{list_any_at}
use Rattle.std.proofs.lemmas.Slice.Eq.{bytes_eq-Decides}
use Rattle.clap.specs.Words.{Text, subcommand_of}
use Rattle.clap.specs.Faults.{fault_of}
use Rattle.commands.specs.Names.{file_name_of, file_names_of}
use Rattle.commands.specs.declared.names.FileName.{FileName}
use Rattle.command_line.specs.CommandLine.{CommandLine, NoLine, bad_prefix, command_line, line_where, line_where_taken, line_with_files, nameless_prefix, writes, writes_over, written_over, reads}
use Rattle.command_line.specs.Laws.{NothingWrittenOver}
use Rattle.command_line.specs.Table.{command_table}

module _ (line : CommandLine) where
  -- a prefix that leaves files nameless
  pub nameless : (prefix : Text) → Some prefix ≡ nameless_prefix line → line_with_files (Ok line) ≡ Err (bad_prefix prefix)
  nameless prefix is = ap (λ (o : Option Text). line_where line o (written_over line)) (sym is)

  -- none, and a file that would be written over
  pub over : (name : Text) → None ≡ nameless_prefix line → Some name ≡ written_over line → line_with_files (Ok line) ≡ Err (writes_over name)
  over name none is = ap₂ (line_where line) (sym none) (sym is)

  -- neither
  pub in_order : None ≡ nameless_prefix line → None ≡ written_over line → line_with_files (Ok line) ≡ Ok line
  in_order none apart = ap₂ (line_where line) (sym none) (sym apart)

-- ---- the first of some names that passes, looked for in order

module _ (test : Text → Bool) (names : List FileName) (i : ℕ) where
  module _ (d : FileName) (within : i < length names) where
    abbrev x : Text
    x = file_name_of (get_or names i d)

    here : file_names_of (drop i names) ≡ x ∷ file_names_of (drop (suc i) names)
    here = ap file_names_of (drop-cons names i d within)

    opened : (all : Option Text) → all ≡ find test (file_names_of (drop i names)) → all ≡ cond (test x) (Some x) (find test (file_names_of (drop (suc i) names)))
    opened all e = e ∙ ap (find test) here

    pub is_first : (all : Option Text) → all ≡ find test (file_names_of (drop i names)) → test x ≡ true → Some x ≡ all
    is_first all e t = sym (opened all e ∙ ap (λ b. cond b (Some x) (find test (file_names_of (drop (suc i) names)))) t)

    pub is_later : (all : Option Text) → all ≡ find test (file_names_of (drop i names)) → test x ≡ false → all ≡ find test (file_names_of (drop (i + 1) names))
    is_later all e f = rw add-one (opened all e ∙ ap (λ b. cond b (Some x) (find test (file_names_of (drop (suc i) names)))) f)

  pub none_left : length names ≤ i → (all : Option Text) → all ≡ find test (file_names_of (drop i names)) → None ≡ all
  none_left past all e = sym (e ∙ ap (λ (ns : List FileName). find test (file_names_of ns)) (drop_of_length-le names past))

-- ---- what is read isn't written

-- where nothing that passes is found, no element passes
module _ (test : Text → Bool) where
  first_fails : (x : Text) (r : Option Text) (b : Bool) → cond b (Some x) r ≡ None → b ≡ false
  first_fails x r true e = cc
  first_fails x r false e = refl

  rest_fail : (x : Text) (r : Option Text) (b : Bool) → cond b (Some x) r ≡ None → r ≡ None
  rest_fail x r true e = cc
  rest_fail x r false e = e

  none_passes : (xs : List Text) (k : ℕ) (t : Text) → find test xs ≡ None → k < length xs → get_or xs k t ≡ t → test t ≡ false
  none_passes [] k t none l at = absurd (omega arith)
  none_passes (x ∷ xs) zero t none l at = subst (λ y. test y ≡ false) at (first_fails x (find test xs) (test x) none)
  none_passes (x ∷ xs) (suc k) t none l at = none_passes xs k t (rest_fail x (find test xs) (test x) none) (omega arith) at

is_any : (t : Text) (ys : List Text) → Contains ys t → list_any (bytes_eq t) ys ≡ true
is_any t ys c = list_any_at (bytes_eq t) ys c.0 t c.1 ((bytes_eq-Decides t (get_or ys c.0 t)).1 (sym c.2))

both : (b : Bool) → b ≡ false → b ≡ true → ⊥
both true e f = cc
both false e f = cc

-- a line whose names are in order writes over nothing
module _ (l line : CommandLine) where
  where_none : (prefix over : Option Text) → over ≡ written_over l → line_where l prefix over ≡ Ok line → written_over line ≡ None
  where_none (Some prefix) over is e = cc
  where_none None (Some name) is e = cc
  where_none None None is e = let same : l ≡ line = cc in subst (λ (m : CommandLine). written_over m ≡ None) same (sym is)

kept : (r : Result CommandLine NoLine) (line : CommandLine) → line_with_files r ≡ Ok line → written_over line ≡ None
kept (Err cause) line e = cc
kept (Ok l) line e = where_none l line (nameless_prefix l) (written_over l) refl e

nothing_over : (words : List Text) (line : CommandLine) → command_line words ≡ Ok line → written_over line ≡ None
unfolding command_line
nothing_over words line e = kept (line_where_taken (fault_of command_table words) (subcommand_of command_table words)) line e

pub nothing_written_over : NothingWrittenOver
nothing_written_over words line name e read written =
    both (list_any (bytes_eq name) (writes line)) (none_passes (λ t. list_any (bytes_eq t) (writes line)) (reads line) read.0 name (nothing_over words line e) read.1 read.2)
    (is_any name (writes line) written)
