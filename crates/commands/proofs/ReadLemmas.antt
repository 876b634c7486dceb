-- One more file after those that are read.
use Rattle.std.proofs.Common.{◌≡◌, ◌∙◌, ◌<◌, ◌≤◌, ◌+◌, ℕ, zero, suc, Bool, true, false, List, [], ◌∷◌, ◌++◌, Option, Some, None, ap, refl, sym, subst, get_or, length, take, option_map, length-append, add-one, Vec}
use Rattle.std.specs.Prelude.{nat_lt, if◌then◌else◌}
use Rattle.std.specs.List.{All, slice_get}
use Rattle.std.proofs.lemmas.Bool.{le-ltb}
use Rattle.std.proofs.lemmas.List.Elements.{All-append, All-cons, All-nil}
use Rattle.std.proofs.lemmas.List.{map_push}
use Rattle.std.specs.declared.alloc.Global.{Global}
use Rattle.std.proofs.lemmas.Option.{slice_get-map, slice_get-get_or}
use Rattle.statement.specs.Benches.{Text}
use Rattle.outside.specs.Shelf.{Files}
use Rattle.outside.specs.Told.{OnTold}
use Rattle.commands.specs.Contents.{FilesHold, IsReached, ReadTexts, Whole, Missing, TooLong, contents_of, contents_at, with_first, most_bytes}
use Rattle.commands.specs.Names.{file_name_of, file_names_of, texts_of}
use Rattle.commands.specs.Reads.{NoFiles}
use Rattle.commands.specs.inner.Steps.{NoFile}
use Rattle.commands.specs.declared.names.FileName.{FileName}
use Rattle.commands.specs.declared.ending.Ending.{Ending}
use Rattle.commands.specs.declared.ending.Ending.TheVariants as ending

-- ---- lists

take_get-suc : {X : Type 0} (xs : List X) (i : ℕ) (x : X) → slice_get xs i ≡ Some x → take (suc i) xs ≡ take i xs ++ x ∷ []
take_get-suc [] i x e = cc
take_get-suc (y ∷ ys) zero x e = let k : y ≡ x = cc in ap (λ v. v ∷ []) k
take_get-suc (y ∷ ys) (suc i) x e = ap (λ l. y ∷ l) (take_get-suc ys i x e)

pub take_get : {X : Type 0} (xs : List X) (i : ℕ) (x : X) → slice_get xs i ≡ Some x → take (i + 1) xs ≡ take i xs ++ x ∷ []
take_get xs i x e = rw add-one (take_get-suc xs i x e)

pub name_here : (names : List FileName) (i : ℕ) (d : FileName) → i < length names → slice_get (file_names_of names) i ≡ Some (file_name_of (get_or names i d))
name_here names i d h = slice_get-map _ names i ∙ ap (option_map file_name_of) (slice_get-get_or names i d h)

-- ---- reading

-- the first text is that of the first file
pub record Begins (name : Text) (file : Option Text) (rest : ReadTexts) (texts : List Text) : Type 0 where
  pub bytes : Text
  pub others : List Text
  pub held : file ≡ Some bytes
  pub few : nat_lt most_bytes (length bytes) ≡ false
  pub rest_is : rest ≡ Whole others
  pub texts_are : texts ≡ bytes ∷ others

same_texts : (a b : List Text) → Whole a ≡ Whole b → b ≡ a
same_texts a b e = cc

begins_if : (test : Bool) (name bytes : Text) (rest : ReadTexts) (texts : List Text) → nat_lt most_bytes (length bytes) ≡ test
    → (if test then TooLong name else with_first bytes rest) ≡ Whole texts → Begins name (Some bytes) rest texts
begins_if true name bytes rest texts t e = cc
begins_if false name bytes (Missing other) texts t e = cc
begins_if false name bytes (TooLong other) texts t e = cc
begins_if false name bytes (Whole others) texts t e =
    record { bytes = bytes; others = others; held = refl; few = t; rest_is = refl; texts_are = same_texts (bytes ∷ others) texts e }

pub begins : (name : Text) (file : Option Text) (rest : ReadTexts) (texts : List Text) → contents_at name file rest ≡ Whole texts → Begins name file rest texts
begins name None rest texts e = cc
begins name (Some bytes) rest texts e = begins_if (nat_lt most_bytes (length bytes)) name bytes rest texts refl e

-- a file in front of others
pub contents_first : (name : Text) (file : Option Text) (bytes : Text) (rest : ReadTexts) → file ≡ Some bytes → nat_lt most_bytes (length bytes) ≡ false
    → contents_at name file rest ≡ with_first bytes rest
contents_first name file bytes rest e few = rw (e, few) refl

-- the contents of names of which the first are whole
pub contents_append : (c : Files) (names more : List Text) (texts : List Text) (end : ReadTexts) (name : Text) → contents_of c names ≡ Whole texts
    → contents_of c more ≡ end → ((t : List Text) → end ≡ Whole t → contents_of c (names ++ more) ≡ Whole (texts ++ t)) × (end ≡ Missing name → contents_of c (names ++ more) ≡ Missing name)
    × (end ≡ TooLong name → contents_of c (names ++ more) ≡ TooLong name)
contents_append c [] more texts end name e f =
    let none : texts ≡ [] = same_texts [] texts e in
    (λ t w. f ∙ w ∙ ap (λ l. Whole (l ++ t)) (sym none), λ m. f ∙ m, λ l. f ∙ l)
contents_append c (x ∷ xs) more texts end name e f =
    let b = begins x (c x) (contents_of c xs) texts e in
    let rest = contents_append c xs more b.others end name b.rest_is f in
    let first = contents_first x (c x) b.bytes (contents_of c (xs ++ more)) b.held b.few in (
      λ t w. first ∙ ap (with_first b.bytes) (rest.0 t w) ∙ ap (λ l. Whole (l ++ t)) (sym b.texts_are),
      λ m. first ∙ ap (with_first b.bytes) (rest.1 m),
      λ l. first ∙ ap (with_first b.bytes) (rest.2 l),
    )

contents_one : (c : Files) (name bytes : Text) → c name ≡ Some bytes → length bytes ≤ most_bytes → contents_of c (name ∷ []) ≡ Whole (bytes ∷ [])
contents_one c name bytes held few = contents_first name (c name) bytes (Whole []) held (le-ltb most_bytes (length bytes) few)

told_more : (files : Option Files) (names texts : List Text) (name bytes : Text) → OnTold files (λ c. contents_of c names ≡ Whole texts)
    → OnTold files (λ c. c name ≡ Some bytes) → length bytes ≤ most_bytes → OnTold files (λ c. contents_of c (names ++ name ∷ []) ≡ Whole (texts ++ bytes ∷ []))
told_more None names texts name bytes before held few = tt
told_more (Some c) names texts name bytes before held few =
    (contents_append c names (name ∷ []) texts (Whole (bytes ∷ [])) name before (contents_one c name bytes held few)).0 (bytes ∷ []) refl

All-one : {X : Type 0} (P : X → Type 0) (x : X) → P x → All P (x ∷ [])
All-one P x p = All-cons P x [] p (All-nil P)

abbrev IsShort : Text → Type 0
IsShort text = length text ≤ most_bytes

one_more_read : (files : Option Files) (names texts : List Text) (name bytes : Text) → FilesHold files names texts
    → OnTold files (λ c. c name ≡ Some bytes) → length bytes ≤ most_bytes → FilesHold files (names ++ name ∷ []) (texts ++ bytes ∷ [])
one_more_read files names texts name bytes before held few = record {
  count = rw (length-append texts (bytes ∷ []), length-append names (name ∷ [])) (ap (λ n. n + 1) before.count);
  within = All-append IsShort texts (bytes ∷ []) before.within (All-one IsShort bytes few);
  told = told_more files names texts name bytes before.told held few;
}

reached : (files : Option Files) (names texts : List Text) (i : ℕ) (name other : Text) → slice_get names i ≡ Some name
    → FilesHold files (take i names) texts → other ≡ name → IsReached files names other
reached files names texts i name other here before e = record { place = i; texts = texts; here = here ∙ ap (λ x. Some x) (sym e); before = before }

-- the first that isn't read
pub first_refused : {R : Type 0} (files : Option Files) (f g : ℕ) (names texts : List Text) (i : ℕ) (name : Text) (e : Ending R)
    → slice_get names i ≡ Some name → FilesHold files (take i names) texts → NoFile name files f g e → NoFiles names files f g e
first_refused files f g names texts i name (ending.ReadFailed n) here before h = (reached files names texts i name _ here before h.0, h.1)
first_refused files f g names texts i name (ending.Missing n) here before h =
    (reached files names texts i name _ here before h.0, rw h.0 h.1, h.2)
first_refused files f g names texts i name (ending.TooLong n) here before h =
    (reached files names texts i name _ here before h.0, rw h.0 h.1, h.2)
first_refused files f g names texts i name ending.Memory here before h = h
first_refused files f g names texts i name (ending.Ended finding) here before h = absurd h
first_refused files f g names texts i name (ending.Refused r) here before h = absurd h
first_refused files f g names texts i name (ending.WriteFailed failure) here before h = absurd h

pub step_read : (files now : Option Files) (names : List FileName) (i : ℕ) (d : FileName) (texts more : List (Vec ℕ Global)) (t : Vec ℕ Global)
    → i < length names → FilesHold files (take i (file_names_of names)) (texts_of texts) → now ≡ files
    → OnTold now (λ c. c (file_name_of (get_or names i d)) ≡ Some t.items) → length t.items ≤ most_bytes → more ≡ texts ++ t ∷ []
    → FilesHold files (take (i + 1) (file_names_of names)) (texts_of more)
step_read files now names i d texts more t h before same held few pushed =
    let name = file_name_of (get_or names i d) in
    let told : OnTold files (λ c. c name ≡ Some t.items) = subst (λ f. OnTold f (λ c. c name ≡ Some t.items)) same held in
    rw (take_get (file_names_of names) i name (name_here names i d h), pushed, map_push (λ (v : Vec ℕ Global). v.items) texts t)
    (one_more_read files (take i (file_names_of names)) (texts_of texts) name t.items before told few)

pub step_refused : {R : Type 0} (files now : Option Files) (f f-now g : ℕ) (names : List FileName) (i : ℕ) (d : FileName) (texts : List Text) (e : Ending R)
    → i < length names → FilesHold files (take i (file_names_of names)) texts → now ≡ files → f-now ≡ f
    → NoFile (file_name_of (get_or names i d)) now f-now g e → NoFiles (file_names_of names) files f g e
step_refused files now f f-now g names i d texts e h before same failures why =
    let name = file_name_of (get_or names i d) in
    let k : NoFile name files f-now g e = subst (λ t. NoFile name t f-now g e) same why in
    first_refused files f g (file_names_of names) texts i name e (name_here names i d h) before (subst (λ n. NoFile name files n g e) failures k)
