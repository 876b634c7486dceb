-- What a parse says of the words, against `command_line`.
use Rattle.std.proofs.Common.{◌≡◌, ◌⊎◌, inl, inr, List, [], ◌∷◌, Option, Result, Ok, Err, ap, ap₂, sym, ◌∙◌, refl, subst, codes}
use Rattle.std.specs.Prelude.{IfErr, IfOk, if◌then◌else◌}
use Rattle.std.specs.Str.{bytes_eq}
use Rattle.std.proofs.lemmas.Bool.{cond-false, false_from_ne_true}
use Rattle.std.proofs.lemmas.Slice.Eq.{bytes_eq-Decides}
use Rattle.clap.specs.Words.{HasKind, IsAmong, Kinds, Row, Text, kind_of, subcommand_of}
use Rattle.clap.specs.Faults.{fault_of}
use Rattle.clap.specs.declared.error.Error.{Error}
use Rattle.clap.specs.declared.error.kind.ErrorKind.{ErrorKind}
use Rattle.clap.specs.declared.error.kind.ErrorKind.TheVariants.{OutOfMemory}
use Rattle.command_line.specs.CommandLine.{CommandLine, NoLine, bad_words, chaintest_of, check_of, command_line, diagnose_of, faults_line_of, grade_of, command_line_at, command_line_of, line_by, line_from, line_where_taken, line_with_files, play_of, run_of, scan_of, sweep_of, transition_of}
use Rattle.command_line.specs.Refusals.{IsUsageError}
use Rattle.command_line.specs.inner.Errors.{BecomesRefusal, IsAsked, IsMadeOf}
use Rattle.command_line.specs.inner.Files.{IsNamed}
use Rattle.command_line.specs.Table.{command_table}
use Rattle.command_line.specs.declared.WordsRefusal.{WordsRefusal}
use Rattle.command_line.specs.declared.WordsRefusal.TheVariants.{BadWords, BadHold, BadPrefix, WritesOver, NoMemory}
use Rattle.command_line.specs.declared.requests.NoRequest.{NoRequest}
use Rattle.command_line.specs.declared.requests.NoRequest.TheVariants as none
use Rattle.command_line.specs.declared.requests.Request.{Request}

abbrev Line : Type 0
Line = Result CommandLine NoLine

pub taken : (words : List Text) (command : Option (Text × List Row)) → fault_of command_table words ≡ []
    → command ≡ subcommand_of command_table words → command_line words ≡ line_with_files (command_line_at command)
unfolding command_line
taken words command none same = ap line_with_files (ap₂ line_where_taken none (sym same))

none_where_faulty : (ks : Kinds) (k : ErrorKind) (command : Option (Text × List Row)) → IsAmong k ks
    → line_where_taken ks command ≡ Err bad_words
none_where_faulty [] k command among = absurd among
none_where_faulty (x ∷ ks) k command among = refl

refused : (words : List Text) (k : ErrorKind) → IsAmong k (fault_of command_table words) → command_line words ≡ Err bad_words
unfolding command_line
refused words k among = ap line_with_files (none_where_faulty (fault_of command_table words) k _ among)

no_line : (words : List Text) (k : ErrorKind) → (k ≡ OutOfMemory) ⊎ IsAmong k (fault_of command_table words)
    → (k ≡ OutOfMemory → ⊥) → command_line words ≡ Err bad_words
no_line words k (inl memory) other = absurd (other memory)
no_line words k (inr among) other = refused words k among

pub caused : (words : List Text) (e : Error) (answer : WordsRefusal) → HasKind (fault_of command_table words) e
    → IsMadeOf (kind_of e) answer → IsUsageError words answer
caused words e (BadWords text) has made = no_line words (kind_of e) has made
caused words e BadHold has made = absurd made
caused words e (BadPrefix prefix) has made = absurd made
caused words e (WritesOver name) has made = absurd made
caused words e NoMemory has made = tt

becomes_bad : (words : List Text) (answer : WordsRefusal) → command_line words ≡ Err bad_words → BecomesRefusal none.BadNumber answer → IsUsageError words answer
becomes_bad words (BadWords text) is made = is
becomes_bad words BadHold is made = absurd made
becomes_bad words (BadPrefix prefix) is made = absurd made
becomes_bad words (WritesOver name) is made = absurd made
becomes_bad words NoMemory is made = tt

-- what values that make no request become, the words being those of this line
pub became : (words : List Text) (line : Line) (cause : NoRequest) (answer : WordsRefusal) → IsAsked line (Err cause) → command_line words ≡ line_with_files line → BecomesRefusal cause answer
    → IsUsageError words answer
became words line none.BadNumber answer is same made = becomes_bad words answer (same ∙ ap line_with_files is) made
became words line none.BadEngine answer is same made = becomes_bad words answer (same ∙ ap line_with_files is) made
became words line none.BadOrder answer is same made = becomes_bad words answer (same ∙ ap line_with_files is) made
became words line none.BadHold answer is same made = subst (λ (r : WordsRefusal). IsUsageError words r) (sym made) (same ∙ ap line_with_files is)
became words line none.NoMemory answer is same made = subst (λ (r : WordsRefusal). IsUsageError words r) (sym made) tt

-- what the names of a request's files make of the words
module _ (words : List Text) (line : Line) (asked : Request) (is : line ≡ Ok (command_line_of asked)) (same : command_line words ≡ line_with_files line) where
  here : command_line words ≡ line_with_files (Ok (command_line_of asked))
  here = same ∙ ap line_with_files is

  pub named_request : (r : Result Request WordsRefusal) → IsNamed (command_line_of asked) r → IfOk r (λ given. command_line words ≡ Ok (command_line_of given))
  named_request (Ok given) named = here ∙ named
  named_request (Err answer) named = tt

  pub named_refusal : (r : Result Request WordsRefusal) → IsNamed (command_line_of asked) r → IfErr r (IsUsageError words)
  named_refusal (Ok given) named = tt
  named_refusal (Err (BadPrefix prefix)) named = here ∙ named
  named_refusal (Err (WritesOver name)) named = here ∙ named
  named_refusal (Err (BadWords text)) named = absurd named
  named_refusal (Err BadHold) named = absurd named
  named_refusal (Err NoMemory) named = tt

pub asked_as : (a b : Line) (r : Result Request NoRequest) → a ≡ b → IsAsked a r → IsAsked b r
asked_as a b r same asked = subst (λ (l : Line). IsAsked l r) same asked

-- what a command asks for, the command being known by its name
pub named : (name word : Text) (rows : List Row) (line : Line) → name ≡ word → line ≡ line_by word rows → line ≡ line_by name rows
named name word rows line same given = given ∙ sym (ap (λ (n : Text). line_by n rows) same)

pub is_scan : (rows : List Row) → line_from (scan_of rows) ≡ line_by (codes "scan") rows
unfolding line_by
is_scan rows = refl

pub is_faults : (rows : List Row) → line_from (faults_line_of rows) ≡ line_by (codes "faults") rows
unfolding line_by
is_faults rows = refl

pub is_run : (rows : List Row) → run_of rows ≡ line_by (codes "run") rows
unfolding line_by
is_run rows = refl

pub is_play : (rows : List Row) → line_from (play_of rows) ≡ line_by (codes "play") rows
unfolding line_by
is_play rows = refl

pub is_check : (rows : List Row) → line_from (check_of rows) ≡ line_by (codes "check") rows
unfolding line_by
is_check rows = refl

pub is_sweep : (rows : List Row) → line_from (sweep_of rows) ≡ line_by (codes "sweep") rows
unfolding line_by
is_sweep rows = refl

pub is_chaintest : (rows : List Row) → line_from (chaintest_of rows) ≡ line_by (codes "chaintest") rows
unfolding line_by
is_chaintest rows = refl

pub is_diagnose : (rows : List Row) → line_from (diagnose_of rows) ≡ line_by (codes "diagnose") rows
unfolding line_by
is_diagnose rows = refl

pub is_transition : (rows : List Row) → transition_of rows ≡ line_by (codes "transition") rows
unfolding line_by
is_transition rows = refl

pub is_grade : (rows : List Row) → line_from (grade_of rows) ≡ line_by (codes "grade") rows
unfolding line_by
is_grade rows = refl

passed : (name word : Text) (a b : Line) → (name ≡ word → ⊥) → b ≡ (if bytes_eq name word then a else b)
passed name word a b differs =
    sym (cond-false (bytes_eq name word) a b (false_from_ne_true _ (λ h. differs ((bytes_eq-Decides name word).0 h))))

-- the name is none of the table's
pub record IsNoCommand (name : Text) : Type 0 where
  pub scan : name ≡ codes "scan" → ⊥
  pub faults : name ≡ codes "faults" → ⊥
  pub run : name ≡ codes "run" → ⊥
  pub play : name ≡ codes "play" → ⊥
  pub check : name ≡ codes "check" → ⊥
  pub sweep : name ≡ codes "sweep" → ⊥
  pub chaintest : name ≡ codes "chaintest" → ⊥
  pub diagnose : name ≡ codes "diagnose" → ⊥
  pub transition : name ≡ codes "transition" → ⊥
  pub grade : name ≡ codes "grade" → ⊥

pub is_none : (name : Text) (rows : List Row) → IsNoCommand name → line_by name rows ≡ Err bad_words
unfolding line_by
is_none name rows other = sym (
    passed name _ _ _ other.grade ∙ passed name _ _ _ other.transition ∙ passed name _ _ _ other.diagnose ∙ passed name _ _ _ other.chaintest ∙ passed name _ _ _ other.sweep ∙ passed name _ _ _ other.check ∙ passed name _ _ _ other.play ∙ passed name _ _ _ other.run
    ∙ passed name _ _ _ other.faults ∙ passed name _ _ _ other.scan
    )
