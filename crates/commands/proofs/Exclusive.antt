-- The rows of a command exclude each other.
use Rattle.std.proofs.Common.{◌≡◌, ◌∙◌, ◌⊎◌, inl, inr, ℕ, zero, suc, List, [], ◌∷◌, ◌++◌, Option, Some, None, ap, refl, sym, subst, length, take}
use Rattle.std.specs.Prelude.{⊤}
use Rattle.std.specs.List.{slice_get}
use Rattle.std.proofs.lemmas.Bool.{lt-ltb}
use Rattle.statement.specs.Benches.{Text}
use Rattle.outside.specs.Causes.{Rose}
use Rattle.outside.specs.Shelf.{Files}
use Rattle.outside.specs.Told.{OnTold}
use Rattle.commands.specs.World.{ShelfFailed, World}
use Rattle.commands.specs.Contents.{FilesHold, IsReached, IsLonger, ReadTexts, Whole, Missing, TooLong, contents_of, contents_at, most_bytes}
use Rattle.commands.specs.Names.{file_name_of}
use Rattle.commands.specs.Due.{Due, Refuse, Deliver}
use Rattle.commands.specs.Rows.{CommandRow}
use Rattle.commands.specs.Laws.{IsExclusive, IsMissing, IsTooLong, IsRefusedFor, IsEnded, OrFails, IsCall, FailedExactly, MissingExactly, TooLongExactly, RefusedExactly, NothingElse}
use Rattle.commands.specs.declared.ending.Finding.{Finding}
use Rattle.commands.specs.declared.ending.WriteFailure.TheVariants as failure
use Rattle.commands.specs.declared.ending.Ending.{Ending}
use Rattle.commands.specs.declared.ending.Ending.TheVariants as ending
use Rattle.commands.proofs.ReadLemmas.{contents_append}

-- a place, and what is behind it
split_at : (names : List Text) (i : ℕ) (name : Text) → slice_get names i ≡ Some name → (more : List Text) × (names ≡ take i names ++ name ∷ more)
split_at [] i name e = cc
split_at (x ∷ xs) zero name e = let k : x ≡ name = cc in (xs, ap (λ y. y ∷ xs) k)
split_at (x ∷ xs) (suc i) name e = let rest = split_at xs i name e in (rest.0, ap (λ l. x ∷ l) rest.1)

module _ (c : Files) (names : List Text) (name : Text) where
  contents_missing : IsReached (Some c) names name → c name ≡ None → contents_of c names ≡ Missing name
  contents_missing r none =
      let s = split_at names r.place name r.here in
      ap (contents_of c) s.1 ∙ (contents_append c (take r.place names) (name ∷ s.0) r.texts (Missing name) name r.before.told
      (ap (λ o. contents_at name o (contents_of c s.0)) none)).1 refl

  too_long : (file : Option Text) (rest : ReadTexts) → IsLonger file → contents_at name file rest ≡ TooLong name
  too_long None rest h = absurd h
  too_long (Some bytes) rest h = rw (lt-ltb most_bytes (length bytes) h) refl

  contents_too_long : IsReached (Some c) names name → IsLonger (c name) → contents_of c names ≡ TooLong name
  contents_too_long r long =
      let s = split_at names r.place name r.here in
      ap (contents_of c) s.1 ∙ (contents_append c (take r.place names) (name ∷ s.0) r.texts (TooLong name) name r.before.told
      (too_long (c name) (contents_of c s.0) long)).2 refl

-- what an ending shows of the files and the texts
abbrev IsDelivered : {R : Type 0} → (List Text → Due R → Type 0) → ReadTexts → Finding → Type 0
IsDelivered due found finding = (texts : List Text) × (made : List Text) × (shown : Text) × (found ≡ Whole texts) × due texts (Deliver made shown finding)

abbrev Shows : {R : Type 0} → (List Text → Due R → Type 0) → ReadTexts → World → World → Ending R → Type 0
Shows due found a b (ending.Ended finding) = IsDelivered due found finding
Shows due found a b (ending.WriteFailed failure) = (Rose a.shelf_failures b.shelf_failures ⊎ Rose a.out_failures b.out_failures) × (finding : Finding) × IsDelivered due found finding
Shows due found a b (ending.Refused r) = (texts : List Text) × (found ≡ Whole texts) × due texts (Refuse r)
Shows due found a b (ending.ReadFailed n) = ShelfFailed a b
Shows due found a b (ending.Missing n) = found ≡ Missing (file_name_of n)
Shows due found a b (ending.TooLong n) = found ≡ TooLong (file_name_of n)
Shows due found a b ending.Memory = ⊤

module _ {R : Type 0} (reads writes : List Text) (due : List Text → Due R → Type 0) (files : Files) (a b : World) (told : a.files ≡ Some files) where
  whole : (texts : List Text) → FilesHold a.files reads texts → contents_of files reads ≡ Whole texts
  whole texts are = subst (λ t. OnTold t (λ c. contents_of c reads ≡ Whole texts)) told are.told

  here : (name : Text) → IsReached a.files reads name → IsReached (Some files) reads name
  here name r = subst (λ t. IsReached t reads name) told r

  shows : (e : Ending R) → CommandRow reads writes due a b e → Shows due (contents_of files reads) a b e
  shows (ending.Ended finding) w = (w.2.0, w.0, w.1, whole w.2.0 w.2.1, w.2.2)
  shows (ending.WriteFailed (failure.File n)) w = (inl w.4.2.0, w.2, (w.3.0, w.0, w.1, whole w.3.0 w.3.1, w.3.2))
  shows (ending.WriteFailed failure.Output) w = (inr w.4.2.1, w.2, (w.3.0, w.0, w.1, whole w.3.0 w.3.1, w.3.2))
  shows (ending.Refused r) w = (w.0.0, whole w.0.0 w.0.1, w.0.2)
  shows (ending.ReadFailed n) w = w.2
  shows (ending.Missing n) w = contents_missing files reads (file_name_of n) (here (file_name_of n) w.0) (subst (λ t. OnTold t (λ c. c (file_name_of n) ≡ None)) told w.1)
  shows (ending.TooLong n) w = contents_too_long files reads (file_name_of n) (here (file_name_of n) w.0) (subst (λ t. OnTold t (λ c. IsLonger (c (file_name_of n)))) told w.1)
  shows ending.Memory w = tt

missing_not_whole : (name : Text) (texts : List Text) (f : ReadTexts) → f ≡ Missing name → f ≡ Whole texts → ⊥
missing_not_whole name texts f e w = let k : Missing name ≡ Whole texts = sym e ∙ w in cc

long_not_whole : (name : Text) (texts : List Text) (f : ReadTexts) → f ≡ TooLong name → f ≡ Whole texts → ⊥
long_not_whole name texts f e w = let k : TooLong name ≡ Whole texts = sym e ∙ w in cc

missing_not_long : (name other : Text) (f : ReadTexts) → f ≡ Missing name → f ≡ TooLong other → ⊥
missing_not_long name other f e w = let k : Missing name ≡ TooLong other = sym e ∙ w in cc

one_missing : (name other : Text) (f : ReadTexts) → f ≡ Missing name → f ≡ Missing other → other ≡ name
one_missing name other f e w = let k : Missing name ≡ Missing other = sym e ∙ w in cc

one_long : (name other : Text) (f : ReadTexts) → f ≡ TooLong name → f ≡ TooLong other → other ≡ name
one_long name other f e w = let k : TooLong name ≡ TooLong other = sym e ∙ w in cc

one_whole : (texts others : List Text) (f : ReadTexts) → f ≡ Whole texts → f ≡ Whole others → others ≡ texts
one_whole texts others f e w = let k : Whole texts ≡ Whole others = sym e ∙ w in cc

module _ {R : Type 0} (due : List Text → Due R → Type 0) (found : ReadTexts) (a b : World) where
  missing_by : (name : Text) → found ≡ Missing name → (e : Ending R) → Shows due found a b e → OrFails (IsMissing name) a b e
  missing_by name none (ending.Ended finding) w = missing_not_whole name w.0 found none w.3
  missing_by name none (ending.WriteFailed failure) w = missing_not_whole name w.2.0 found none w.2.3
  missing_by name none (ending.Refused r) w = missing_not_whole name w.0 found none w.1
  missing_by name none (ending.ReadFailed n) w = w
  missing_by name none (ending.Missing n) w = one_missing name (file_name_of n) found none w
  missing_by name none (ending.TooLong n) w = missing_not_long name (file_name_of n) found none w
  missing_by name none ending.Memory w = tt

  long_by : (name : Text) → found ≡ TooLong name → (e : Ending R) → Shows due found a b e → OrFails (IsTooLong name) a b e
  long_by name long (ending.Ended finding) w = long_not_whole name w.0 found long w.3
  long_by name long (ending.WriteFailed failure) w = long_not_whole name w.2.0 found long w.2.3
  long_by name long (ending.Refused r) w = long_not_whole name w.0 found long w.1
  long_by name long (ending.ReadFailed n) w = w
  long_by name long (ending.Missing n) w = missing_not_long (file_name_of n) name found w long
  long_by name long (ending.TooLong n) w = one_long name (file_name_of n) found long w
  long_by name long ending.Memory w = tt

  module _ (exclusive : IsExclusive due) (texts : List Text) (all : found ≡ Whole texts) where
    due_here : (others : List Text) (d : Due R) → found ≡ Whole others → due others d → due texts d
    due_here others d w h = subst (λ t. due t d) (one_whole texts others found all w) h

    refused_by : (r : R) → due texts (Refuse r) → (e : Ending R) → Shows due found a b e → OrFails (IsRefusedFor r) a b e
    refused_by r why (ending.Ended finding) w = exclusive texts _ _ why (due_here w.0 _ w.3 w.4)
    refused_by r why (ending.WriteFailed failure) w = exclusive texts _ _ why (due_here w.2.0 _ w.2.3 w.2.4)
    refused_by r why (ending.Refused s) w = exclusive texts _ _ why (due_here w.0 _ w.1 w.2)
    refused_by r why (ending.ReadFailed n) w = w
    refused_by r why (ending.Missing n) w = missing_not_whole (file_name_of n) texts found w all
    refused_by r why (ending.TooLong n) w = long_not_whole (file_name_of n) texts found w all
    refused_by r why ending.Memory w = tt

    ended_by : (made : List Text) (shown : Text) (finding : Finding) → due texts (Deliver made shown finding)
        → ¬ Rose a.shelf_failures b.shelf_failures → ¬ Rose a.out_failures b.out_failures → (e : Ending R) → Shows due found a b e → OrFails (IsEnded finding) a b e
    ended_by made shown finding work no_shelf no_out (ending.Ended other) w = exclusive texts _ _ work (due_here w.0 _ w.3 w.4)
    ended_by made shown finding work no_shelf no_out (ending.WriteFailed failure) w = elim w.0 [
      | inl shelf ↦ no_shelf shelf
      | inr out ↦ no_out out
    ]
    ended_by made shown finding work no_shelf no_out (ending.Refused s) w = exclusive texts _ _ work (due_here w.0 _ w.1 w.2)
    ended_by made shown finding work no_shelf no_out (ending.ReadFailed n) w = w
    ended_by made shown finding work no_shelf no_out (ending.Missing n) w = missing_not_whole (file_name_of n) texts found w all
    ended_by made shown finding work no_shelf no_out (ending.TooLong n) w = long_not_whole (file_name_of n) texts found w all
    ended_by made shown finding work no_shelf no_out ending.Memory w = tt

module _ {R : Type 0} (due : List Text → Due R → Type 0) where
  shown_by : (reads writes : List Text) (files : Files) (a b : World) (e : Ending R) → IsCall reads writes due files a b e → Shows due (contents_of files reads) a b e
  shown_by reads writes files a b e call = shows reads writes due files a b call.told e call.row

  pub missing_exactly : MissingExactly due
  missing_exactly reads writes files a b e name call none = missing_by due (contents_of files reads) a b name none e (shown_by reads writes files a b e call)

  pub too_long_exactly : TooLongExactly due
  too_long_exactly reads writes files a b e name call long = long_by due (contents_of files reads) a b name long e (shown_by reads writes files a b e call)

  pub refused_exactly : RefusedExactly due
  refused_exactly reads writes files a b e texts r call all exclusive why =
      refused_by due (contents_of files reads) a b exclusive texts all r why e (shown_by reads writes files a b e call)

  pub nothing_else : NothingElse due
  nothing_else reads writes files a b e texts made shown finding call all exclusive work no_shelf no_out =
      ended_by due (contents_of files reads) a b exclusive texts all made shown finding work no_shelf no_out e (shown_by reads writes files a b e call)

  pub failed_exactly : FailedExactly due
  failed_exactly reads writes a b (ending.Ended finding) w some = absurd (some w.3.2)
  failed_exactly reads writes a b (ending.WriteFailed (failure.File n)) w some = w.4.2
  failed_exactly reads writes a b (ending.WriteFailed failure.Output) w some = w.4.2
  failed_exactly reads writes a b (ending.Refused r) w some = absurd (some w.1.1)
  failed_exactly reads writes a b (ending.ReadFailed n) w some = w.2
  failed_exactly reads writes a b (ending.Missing n) w some = absurd (some w.2.1)
  failed_exactly reads writes a b (ending.TooLong n) w some = absurd (some w.2.1)
  failed_exactly reads writes a b ending.Memory w some = elim w [
    | inl before ↦ absurd (some before.1)
    | inr stopped ↦ elim stopped.4 [
      | inl files ↦ absurd (some files.2)
      | inr output ↦ absurd (some output.2)
    ]
  ]
