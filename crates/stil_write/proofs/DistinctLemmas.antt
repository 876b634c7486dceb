-- A set of the texts so far.
use denote.Ref.{Bor}
use Rattle.std.proofs.Common.{◌≡◌, ℕ, zero, suc, ◌+◌, ◌<◌, Bool, true, false, List, [], ◌∷◌, ◌++◌, take, map, length, refl, sym, ap, ◌∙◌, arith, get_or, subst}
use Rattle.std.specs.Prelude.{◌≢◌, Some, slice_get, ◌||◌, if◌then◌else◌, not}
use Rattle.std.specs.List.{AllPairs, list_any}
use Rattle.std.specs.Str.{bytes_eq}
use Rattle.std.proofs.lemmas.Slice.Eq.{bytes_eq-Decides}
use Rattle.std.proofs.lemmas.List.{map_push, get_or-take, length-take}
use Rattle.std.proofs.lemmas.List.Quantifiers.{all_pairs_push}
use Rattle.std.proofs.lemmas.Option.{get_or_from_slice_get, slice_get_within}
use Rattle.statement.specs.Benches.{Text}
use Rattle.stil_write.proofs.LoopLemmas.{take_at}

abbrev texts_in : List (Bor Text) → List Text
texts_in keys = map (λ (key : Bor Text). key.now) keys

abbrev AreDistinct : List Text → Type 0
AreDistinct texts = AllPairs (λ x y. x ≢ y) texts

any_texts : (p : Text → Bool) (keys : List (Bor Text)) → list_any (λ (key : Bor Text). p key.now) keys ≡ list_any p (texts_in keys)
any_texts p [] = refl
any_texts p (key ∷ keys) = ap (λ b. p key.now || b) (any_texts p keys)

abbrev Found : Text → List Text → Type 0
Found x texts = (k : ℕ) × (k < length texts) × ((d : Text) → x ≡ get_or texts k d)

found_by : (x text : Text) (texts : List Text) (b : Bool) → bytes_eq x text ≡ b → (b || list_any (bytes_eq x) texts) ≡ true → (list_any (bytes_eq x) texts ≡ true → Found x texts) → Found x (text ∷ texts)
found_by x text texts true e h later = (0, omega arith, λ d. (bytes_eq-Decides x text).0 e)
found_by x text texts false e h later = let l = later h in (suc l.0, (let k = l.1 in omega (arith, k)), λ d. l.2 d)

-- the place of a text that is there
found : (x : Text) (texts : List Text) → list_any (bytes_eq x) texts ≡ true → Found x texts
found x [] h = absurd (cc)
found x (text ∷ texts) h = found_by x text texts (bytes_eq x text) refl h (λ later. found x texts later)

-- no text is at any place
absent : (x : Text) (texts : List Text) → list_any (bytes_eq x) texts ≡ false → (k : ℕ) (d : Text) → k < length texts → get_or texts k d ≢ x
absent x [] h k d l e = absurd (omega arith)
absent x (text ∷ texts) h zero d l e = let t : bytes_eq x text ≡ true = (bytes_eq-Decides x text).1 (sym e) in clash (bytes_eq x text) (list_any (bytes_eq x) texts) t h
  where
    clash : (a b : Bool) → a ≡ true → (a || b) ≡ false → ⊥
    clash true b e f = cc
    clash false b e f = cc
absent x (text ∷ texts) h (suc k) d l e = absent x texts (rest (bytes_eq x text) (list_any (bytes_eq x) texts) h) k d (omega arith) e
  where
    rest : (a b : Bool) → (a || b) ≡ false → b ≡ false
    rest true b f = cc
    rest false b f = f

pub twice : (texts : List Text) (i : ℕ) (x : Bor Text) (keys : List (Bor Text)) → slice_get texts i ≡ Some x.now → texts_in keys ≡ take i texts
    → list_any (λ (key : Bor Text). bytes_eq x.now key.now) keys ≡ true → AreDistinct texts → ⊥
twice texts i x keys h e any distinct =
    let there : list_any (bytes_eq x.now) (take i texts) ≡ true = ap (list_any (bytes_eq x.now)) (sym e) ∙ sym (any_texts (bytes_eq x.now) keys) ∙ any in
    let at = found x.now (take i texts) there in
    let l : i < length texts = slice_get_within texts i x.now h in
    let n = length-take i texts in
    let k = at.1 in
    let before : at.0 < i = omega (arith, n, k) in
    let same : get_or texts at.0 x.now ≡ get_or texts i x.now = sym (get_or-take i texts at.0 x.now before) ∙ sym (at.2 x.now) ∙ sym (get_or_from_slice_get texts i x.now x.now h) in
    distinct at.0 i x.now before l same

pub once : (texts : List Text) (i : ℕ) (x : Bor Text) (keys more : List (Bor Text)) → slice_get texts i ≡ Some x.now → texts_in keys ≡ take i texts → AreDistinct (take i texts)
    → list_any (λ (key : Bor Text). bytes_eq x.now key.now) keys ≡ false → more ≡ (if list_any (λ (key : Bor Text). bytes_eq x.now key.now) keys then keys else keys ++ x ∷ [])
    → (texts_in more ≡ take (i + 1) texts) × AreDistinct (take (i + 1) texts)
once texts i x keys more h e distinct any m =
    let there : list_any (bytes_eq x.now) (take i texts) ≡ false = ap (list_any (bytes_eq x.now)) (sym e) ∙ sym (any_texts (bytes_eq x.now) keys) ∙ any in
    let one : take (i + 1) texts ≡ take i texts ++ x.now ∷ [] = take_at texts i x.now h in
    let pushed : more ≡ keys ++ x ∷ [] = m ∙ ap (λ (b : Bool). if b then keys else keys ++ x ∷ []) any in (
      ap texts_in pushed ∙ map_push (λ (key : Bor Text). key.now) keys x ∙ ap (λ l. l ++ x.now ∷ []) e ∙ sym one,
      subst AreDistinct (sym one) (all_pairs_push (λ x y. x ≢ y) (take i texts) x.now distinct (λ k d l. absent x.now (take i texts) there k d l)),
    )

pub not_false : (b : Bool) → not b ≡ false → b ≡ true
not_false true e = refl
not_false false e = cc

pub not_true : (b : Bool) → not b ≡ true → b ≡ false
not_true true e = cc
not_true false e = refl
