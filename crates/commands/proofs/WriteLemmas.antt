-- One more file after those that are written.
use Rattle.std.proofs.Common.{◌≡◌, ◌∙◌, ◌<◌, ◌≤◌, ◌+◌, ℕ, zero, suc, List, [], ◌∷◌, ◌++◌, Option, Some, None, ap, refl, sym, subst, get_or, length, take, option_map, arith, Vec}
use Rattle.std.specs.Prelude.{if◌then◌else◌}
use Rattle.std.specs.List.{slice_get, zip}
use Rattle.std.specs.Str.{bytes_eq}
use Rattle.std.specs.declared.alloc.Global.{Global}
use Rattle.std.proofs.lemmas.List.{take_all}
use Rattle.std.proofs.lemmas.Option.{slice_get-map, slice_get-get_or}
use Rattle.statement.specs.Benches.{Text}
use Rattle.outside.specs.Shelf.{Files, GainsFile, SameFiles}
use Rattle.outside.specs.Told.{Both}
use Rattle.commands.specs.Written.{AreFirstWritten, AreWritten, AreWrittenUpTo, LeavesFiles, with_file, with_files}
use Rattle.commands.specs.Names.{file_name_of, file_names_of, texts_of}
use Rattle.commands.specs.declared.names.FileName.{FileName}
use Rattle.commands.specs.inner.Steps.{NotWritten, StopsWriting}
use Rattle.commands.specs.declared.ending.Ending.{Ending}
use Rattle.commands.specs.declared.ending.Ending.TheVariants as ending
use Rattle.commands.specs.declared.ending.WriteFailure.TheVariants as failure
use Rattle.outside.specs.Causes.{Rose}
use Rattle.commands.proofs.ReadLemmas.{name_here, take_get}

-- ---- lists

zip_get : {X Y : Type 0} (xs : List X) (ys : List Y) (i : ℕ) (x : X) (y : Y) → slice_get xs i ≡ Some x → slice_get ys i ≡ Some y → slice_get (zip xs ys) i ≡ Some (x, y)
zip_get [] ys i x y e f = cc
zip_get (a ∷ xs) [] i x y e f = cc
zip_get (a ∷ xs) (b ∷ ys) zero x y e f = cc
zip_get (a ∷ xs) (b ∷ ys) (suc i) x y e f = zip_get xs ys i x y e f

pub file_here : (names : List FileName) (texts : List (Vec ℕ Global)) (i : ℕ) (d : FileName) (v : Vec ℕ Global) → i < length names → length texts ≡ length names
    → slice_get (zip (file_names_of names) (texts_of texts)) i ≡ Some (file_name_of (get_or names i d), (get_or texts i v).items)
file_here names texts i d v h same =
    zip_get (file_names_of names) (texts_of texts) i _ _ (name_here names i d h)
    (let k : i < length texts = omega arith in slice_get-map _ texts i ∙ ap (option_map (λ (w : Vec ℕ Global). w.items)) (slice_get-get_or texts i v k))

pub length-zip_le : {X Y : Type 0} (xs : List X) (ys : List Y) → length (zip xs ys) ≤ length xs
length-zip_le [] ys = omega arith
length-zip_le (x ∷ xs) [] = omega arith
length-zip_le (x ∷ xs) (y ∷ ys) = let k = length-zip_le xs ys in omega arith

-- ---- writing

with_files-append : (files : Files) (ps : List (Text × Text)) (p : Text × Text) (q : Text)
    → with_files files (ps ++ p ∷ []) q ≡ (if bytes_eq p.0 q then Some p.1 else with_files files ps q)
with_files-append files [] p q = refl
with_files-append files (x ∷ ps) p q = with_files-append (with_file files x) ps p q

one_more : (ps : List (Text × Text)) (name bytes : Text) (a b c : Files) → AreWritten ps a b → GainsFile b name bytes c
    → AreWritten (ps ++ (name, bytes) ∷ []) a c
one_more ps name bytes a b c before after q =
    after q ∙ ap (λ (v : Option Text). if bytes_eq name q then Some bytes else v) (before q) ∙ sym (with_files-append a ps (name, bytes) q)

none_written : (a : Option Files) → Both a a (AreWritten [])
none_written None = tt
none_written (Some a) = λ q. refl

pub leaves_both : (ps : List (Text × Text)) (a b : Option Files) → LeavesFiles ps a b → Both a b (AreWritten ps)
leaves_both [] a b same = subst (λ c. Both a c (AreWritten [])) (sym same) (none_written a)
leaves_both (p ∷ ps) a b written = written

both_leaves : (ps : List (Text × Text)) (p : Text × Text) (a b : Option Files) → Both a b (AreWritten (ps ++ p ∷ [])) → LeavesFiles (ps ++ p ∷ []) a b
both_leaves [] p a b written = written
both_leaves (x ∷ ps) p a b written = written

-- what holds of files from a to b, and then from b to c, from a to c
both_both : (P Q R : Files → Files → Type 0) (a b c : Option Files) → ((x y z : Files) → P x y → Q y z → R x z) → Both a b P → Both b c Q → Both a c R
both_both P Q R None b c join p q = tt
both_both P Q R (Some x) None c join p q = absurd p
both_both P Q R (Some x) (Some y) None join p q = absurd q
both_both P Q R (Some x) (Some y) (Some z) join p q = join x y z p q

-- the first were written, and nothing more was
pub first_written : (all : List (Text × Text)) (i : ℕ) (a b c : Option Files) → LeavesFiles (take i all) a b → Both b c SameFiles → Both a c (AreFirstWritten all)
first_written all i a b c before same =
    both_both (AreWritten (take i all)) SameFiles (AreFirstWritten all) a b c
    (λ x y z p q. (i, λ name. q name ∙ p name)) (leaves_both (take i all) a b before) same

module _ (names : List FileName) (texts : List (Vec ℕ Global)) (i : ℕ) (d : FileName) (v : Vec ℕ Global) (h : i < length names) (same : length texts ≡ length names)
    (a b c : Option Files) (before : LeavesFiles (take i (zip (file_names_of names) (texts_of texts))) a b) where
  abbrev all : List (Text × Text)
  all = zip (file_names_of names) (texts_of texts)

  abbrev file : Text × Text
  file = (file_name_of (get_or names i d), (get_or texts i v).items)

  here : slice_get all i ≡ Some file
  here = file_here names texts i d v h same

  pub step_written : Both b c (λ old new. GainsFile old file.0 file.1 new) → LeavesFiles (take (i + 1) all) a c
  step_written wrote =
      rw (take_get all i file here) (both_leaves (take i all) file a c
      (both_both (AreWritten (take i all)) (λ old new. GainsFile old file.0 file.1 new) (AreWritten (take i all ++ file ∷ [])) a b c
      (λ x y z p q. one_more (take i all) file.0 file.1 x y z p q) (leaves_both (take i all) a b before) wrote))

  failed : (n : FileName) → file_name_of n ≡ file.0 → Both b c (λ old new. (kept : ℕ) × GainsFile old file.0 (take kept file.1) new) → Both a c (AreWrittenUpTo all (file_name_of n))
  failed n is wrote =
      rw is (both_both (AreWritten (take i all)) (λ old new. (kept : ℕ) × GainsFile old file.0 (take kept file.1) new) (AreWrittenUpTo all file.0) a b c
      (λ x y z p q. record { place = i; text = file.1; kept = q.0; here = here; written = one_more (take i all) file.0 (take q.0 file.1) x y z p q.1 })
      (leaves_both (take i all) a b before) wrote)

  pub step_stopped : {R : Type 0} (f f-now g : ℕ) (e : Ending R) → f-now ≡ f → NotWritten file.0 file.1 b f-now c g e
      → StopsWriting (file_names_of names) (texts_of texts) a f c g e
  step_stopped f f-now g (ending.WriteFailed (failure.File n)) failures why = (subst (λ n. Rose n g) failures why.1, failed n why.0 why.2)
  step_stopped f f-now g (ending.WriteFailed failure.Output) failures why = absurd why
  step_stopped f f-now g ending.Memory failures why = (first_written all i a b c before why.0, why.1 ∙ failures)
  step_stopped f f-now g (ending.Ended finding) failures why = absurd why
  step_stopped f f-now g (ending.Refused r) failures why = absurd why
  step_stopped f f-now g (ending.ReadFailed n) failures why = absurd why
  step_stopped f f-now g (ending.Missing n) failures why = absurd why
  step_stopped f f-now g (ending.TooLong n) failures why = absurd why

pub nothing_more : (b : Option Files) → Both b b SameFiles
nothing_more None = tt
nothing_more (Some b) = λ name. refl

pub all_written : (names texts : List Text) (i : ℕ) (a b : Option Files) → length names ≤ i → LeavesFiles (take i (zip names texts)) a b → LeavesFiles (zip names texts) a b
all_written names texts i a b h before =
    let short : length (zip names texts) ≤ i = (let k = length-zip_le names texts in omega arith) in
    subst (λ ps. LeavesFiles ps a b) (take_all i (zip names texts) short) before
