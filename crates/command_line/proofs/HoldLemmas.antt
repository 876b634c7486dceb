-- The list of held inputs, item by item.
use denote.Ref.{Bor}
use Rattle.std.proofs.Common.{◌≡◌, ℕ, suc, ◌+◌, ◌<◌, ◌≤◌, Bool, true, false, List, [], ◌∷◌, ◌++◌, drop, map, length, Option, Some, None, refl, sym, ap, ◌∙◌, add-one, append-nil, append_assoc, drop-cons, drop_of_length-le, get_or, option_map, lit<}
use Rattle.std.specs.Prelude.{◌==◌, ◌&&◌, ◌||◌, not, if◌then◌else◌}
use Rattle.std.specs.List.{list_any, slice_split}
use Rattle.std.specs.Str.{bytes_eq}
use Rattle.std.proofs.lemmas.Iterator.{YieldsList}
use Rattle.std.proofs.lemmas.Iterator.Consumers.{YieldsList-at}
use Rattle.std.proofs.lemmas.Iterator.Splits.{YieldsList-from_str_split}
use Rattle.std.proofs.lemmas.List.{at_drop_more, map_push}
use Rattle.std.specs.declared.str.Split.{Split}
use Rattle.std.specs.Str.Iter.{split_has_more, split_pattern, split_steps, split_text}
use Rattle.std.specs.Str.Pattern.{FindsChar}
use Rattle.clap.specs.Words.{Text}
use Rattle.command_line.specs.CommandLine.{hold_of}
use Rattle.command_line.specs.declared.holds.Held.{Held}
use Rattle.command_line.specs.HoldLists.{HoldItem, are_new, hold_in, holds_of, with_hold}

-- what the items are, behind those that are done
abbrev pub after : List HoldItem → Option (List HoldItem) → Option (List HoldItem)
after done holds = option_map (λ hs. done ++ hs) holds

moved : (done : List HoldItem) (h : HoldItem) (rest : Option (List HoldItem)) → after done (with_hold (Some h) rest) ≡ after (done ++ h ∷ []) rest
moved done h None = refl
moved done h (Some hs) = ap Some (sym (append_assoc done (h ∷ []) hs))

pub one_more : (all : Option (List HoldItem)) (done : List HoldItem) (items : List Text) (item : Text) (more : List Text) (h : HoldItem) → all ≡ after done (holds_of items)
    → items ≡ item ∷ more → Some h ≡ hold_in item → all ≡ after (done ++ h ∷ []) (holds_of more)
one_more all done items item more h e split is =
    e ∙ ap (λ (ts : List Text). after done (holds_of ts)) split ∙ ap (λ (o : Option HoldItem). after done (with_hold o (holds_of more))) (sym is) ∙ moved done h (holds_of more)

pub one_bad : (all : Option (List HoldItem)) (done : List HoldItem) (items : List Text) (item : Text) (more : List Text) → all ≡ after done (holds_of items)
    → items ≡ item ∷ more → None ≡ hold_in item → all ≡ None
one_bad all done items item more e split is =
    e ∙ ap (λ (ts : List Text). after done (holds_of ts)) split ∙ ap (λ (o : Option HoldItem). after done (with_hold o (holds_of more))) (sym is)

abbrev pub texts_in : List (Bor Text) → List Text
texts_in keys = map (λ (key : Bor Text). key.now) keys

any_texts : (p : Text → Bool) (keys : List (Bor Text)) → list_any (λ (key : Bor Text). p key.now) keys ≡ list_any p (texts_in keys)
any_texts p [] = refl
any_texts p (key ∷ keys) = ap (λ b. p key.now || b) (any_texts p keys)

not_true : (b : Bool) → not b ≡ true → b ≡ false
not_true true e = cc
not_true false e = refl

-- the parts of a text between commas
pub YieldsItems : {s t : Split ℕ} (text : Text) → t ≡ s → split_text s ≡ text → split_has_more s ≡ true → split_pattern s ≡ 44
    → YieldsList (split_steps FindsChar (λ a b. b ≡ a)) (λ x. x.now) t (slice_split (λ b. b == 44) text)
YieldsItems text same is more pattern = YieldsList-at same (YieldsList-from_str_split 44 text (lit< tt) is more pattern)

-- the item at a place, and those behind it
pub cut_here : (items : List Text) (n : ℕ) (item : Text) → (n < length items) × (item ≡ get_or items n item) → drop n items ≡ item ∷ drop (n + 1) items
cut_here items n item at = at_drop_more (λ ts. ts) items n item at.0 ∙ ap (λ (t : Text). t ∷ drop (n + 1) items) (sym at.1)

pub none_done : (holds : Option (List HoldItem)) → holds ≡ after [] holds
none_done None = refl
none_done (Some hs) = refl

pub all_done : (all : Option (List HoldItem)) (done : List HoldItem) (items : List Text) (n : ℕ) → all ≡ after done (holds_of (drop n items)) → length items ≤ n → all ≡ Some done
all_done all done items n e past = e ∙ ap (λ (ts : List Text). after done (holds_of ts)) (drop_of_length-le items past) ∙ ap Some (append-nil done)

abbrev pub names : List Held → List Text
names holds = map (λ h. h.0) (map hold_of holds)

-- the name at a place, against those before it
module _ (holds : List Held) (i : ℕ) (d : Held) (within : i < length holds) (keys : List (Bor Text)) where
  abbrev x : Bor Text
  x = (get_or holds i d).name

  abbrev Among : Bool
  Among = list_any (λ (key : Bor Text). bytes_eq x.now key.now) keys

  here : names (drop i holds) ≡ x.now ∷ names (drop (suc i) holds)
  here = ap names (drop-cons holds i d within)

  among : list_any (bytes_eq x.now) (texts_in keys) ≡ Among
  among = sym (any_texts (bytes_eq x.now) keys)

  abbrev Rest : Bool → List Text → Bool
  Rest found before = not found && are_new before (names (drop (suc i) holds))

  opened : are_new (texts_in keys) (names (drop i holds)) ≡ Rest Among (texts_in keys ++ x.now ∷ [])
  opened = ap (are_new (texts_in keys)) here ∙ ap (λ (b : Bool). Rest b (texts_in keys ++ x.now ∷ [])) among

  pub stands_twice : (all : Bool) → all ≡ are_new (texts_in keys) (names (drop i holds)) → not Among ≡ false → false ≡ all
  stands_twice all e twice = sym (e ∙ opened ∙ ap (λ (b : Bool). b && are_new (texts_in keys ++ x.now ∷ []) (names (drop (suc i) holds))) twice)

  pub is_new : (all : Bool) (more : List (Bor Text)) → all ≡ are_new (texts_in keys) (names (drop i holds)) → not Among ≡ true
      → more ≡ (if Among then keys else keys ++ x ∷ []) → all ≡ are_new (texts_in more) (names (drop (i + 1) holds))
  is_new all more e new m =
      let pushed : more ≡ keys ++ x ∷ [] = m ∙ ap (λ (b : Bool). if b then keys else keys ++ x ∷ []) (not_true Among new) in
      let grown : texts_in keys ++ x.now ∷ [] ≡ texts_in more = sym (map_push (λ (key : Bor Text). key.now) keys x) ∙ ap texts_in (sym pushed) in
      rw add-one (e ∙ opened ∙ ap (λ (b : Bool). b && are_new (texts_in keys ++ x.now ∷ []) (names (drop (suc i) holds))) new
      ∙ ap (λ (l : List Text). are_new l (names (drop (suc i) holds))) grown)
