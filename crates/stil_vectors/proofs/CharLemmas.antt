-- Characters of words, by place.
use Rattle.std.proofs.Common.{◌≡◌, ◌∙◌, ◌+◌, ◌-◌, ◌<◌, ◌≤◌, ℕ, zero, suc, List, [], ◌∷◌, ◌++◌, ap, sym, refl, subst, append_assoc, append-nil, length, take, drop, map, get_or, arith, replicate}
use Rattle.std.specs.Prelude.{Some, slice_get}
use Rattle.std.specs.List.{All, AllZip, flat_map}
use Rattle.std.proofs.lemmas.List.{map_push, map-append, take_more, take_all, length-map, length-take, length-drop, get_or-drop}
use Rattle.std.proofs.lemmas.List.Concat.{flat_map-append}
use Rattle.std.proofs.lemmas.List.Elements.{All-cons, All-head, All-nil, All-tail}
use Rattle.std.proofs.lemmas.Option.{get_or_from_slice_get, slice_get-get_or, slice_get_within}
use Rattle.statement.specs.Benches.{Text}
use Rattle.stil_vectors.specs.FileVectors.{together}

-- one more element
pub take_at : {X : Type 0} (xs : List X) (i : ℕ) (x : X) → slice_get xs i ≡ Some x → take (i + 1) xs ≡ take i xs ++ x ∷ []
take_at xs i x h =
    take_more xs i x (slice_get_within xs i x h) ∙ ap (λ y. take i xs ++ y ∷ []) (get_or_from_slice_get xs i x x h)

pub behind_at : {X : Type 0} (xs : List X) (n k : ℕ) (x : X) → n ≤ k → slice_get xs k ≡ Some x → slice_get (drop n xs) (k - n) ≡ Some x
behind_at xs n k x l h =
    let m : n + (k - n) ≡ k = omega (arith, l) in
    let w = slice_get_within xs k x h in
    let d = length-drop n xs in
    slice_get-get_or (drop n xs) (k - n) x (omega (arith, w, d, l)) ∙ ap Some (get_or-drop n xs (k - n) x ∙ ap (λ i. get_or xs i x) m ∙ get_or_from_slice_get xs k x x h)

-- a character of a word, as what it stands for
char_at : {V : Type 0} (f : ℕ → V) (word : Text) (t : ℕ) (z : V) → t < length word → get_or (map f word) t z ≡ f (get_or word t 0)
char_at f [] t z l = absurd (omega (arith, l))
char_at f (b ∷ bs) zero z l = refl
char_at f (b ∷ bs) (suc t) z l = char_at f bs t z (omega (arith, l))

abbrev pub chars : {V : Type 0} → (ℕ → V) → V → List Text → ℕ → List V
chars f z words t = map (λ (word : List _). get_or word t z) (map (map f) words)

pub chars_more : {V : Type 0} (f : ℕ → V) (z : V) (words : List Text) (i t : ℕ) (word : Text) (before so_far after : List V) (v : V) → slice_get words i ≡ Some word → t < length word
    → so_far ≡ before ++ chars f z (take i words) t → v ≡ f (get_or word t 0) → after ≡ so_far ++ v ∷ [] → after ≡ before ++ chars f z (take (i + 1) words) t
chars_more f z words i t word before so_far after v h l e is a =
    let one : map (map f) (take (i + 1) words) ≡ map (map f) (take i words) ++ map f word ∷ [] = ap (map (map f)) (take_at words i word h) ∙ map_push (map f) (take i words) word in
    let more : chars f z (take (i + 1) words) t ≡ chars f z (take i words) t ++ get_or (map f word) t z ∷ [] =
    ap (map (λ (w : List _). get_or w t z)) one ∙ map_push (λ (w : List _). get_or w t z) (map (map f) (take i words)) (map f word) in
    a ∙ ap (λ l. l ++ v ∷ []) e ∙ append_assoc before (chars f z (take i words) t) (v ∷ [])
    ∙ ap (λ l. before ++ l) (ap (λ x. chars f z (take i words) t ++ x ∷ []) (is ∙ sym (char_at f word t z l)) ∙ sym more)

pub length-chars : {V : Type 0} (f : ℕ → V) (z : V) (words : List Text) (t : ℕ) → length (chars f z words t) ≡ length words
length-chars f z words t = length-map (map (map f) words) (λ (w : List _). get_or w t z) ∙ length-map words (map f)

-- words one behind the other
pub together_more : {V : Type 0} (f : ℕ → V) (words : List Text) (i : ℕ) (word : Text) (so_far after : List V) → slice_get words i ≡ Some word → so_far ≡ map f (together (take i words))
    → after ≡ so_far ++ map f word → after ≡ map f (together (take (i + 1) words))
together_more f words i word so_far after h e a =
    a ∙ ap (λ l. l ++ map f word) e ∙ sym (map-append f (together (take i words)) word)
    ∙ ap (map f) (sym (ap together (take_at words i word h) ∙ flat_map-append (λ (w : Text). w) (take i words) (word ∷ []) ∙ ap (λ t. together (take i words) ++ t) (append-nil word)))

-- a fact of every word, at one
pub all_at : {X : Type 0} (P : X → Type 0) (xs : List X) (i : ℕ) (x : X) → All P xs → slice_get xs i ≡ Some x → P x
all_at P xs i x h e = subst P (get_or_from_slice_get xs i x x e) (h i x (slice_get_within xs i x e))

-- pairs of forms and words
pub zip_has : {A B : Type 0} (R : A → B → Type 0) (xs : List A) (ys : List B) (i : ℕ) (x : A) → AllZip R xs ys → slice_get xs i ≡ Some x → (y : B) × (slice_get ys i ≡ Some y) × R x y
zip_has R [] ys i x a e = absurd (cc)
zip_has R (p ∷ xs) [] i x a e = absurd a
zip_has R (p ∷ xs) (q ∷ ys) zero x a e = let s : p ≡ x = cc in (q, refl, subst (λ u. R u q) s a.0)
zip_has R (p ∷ xs) (q ∷ ys) (suc i) x a e = zip_has R xs ys i x a.1 e

pub zip_all : {A B : Type 0} (R : A → B → Type 0) (P : B → Type 0) (xs : List A) (ys : List B) → AllZip R xs ys → ((k : ℕ) (x : A) (y : B) → slice_get xs k ≡ Some x → R x y → P y) → All P ys
zip_all R P [] [] a h = All-nil P
zip_all R P [] (y ∷ ys) a h = absurd a
zip_all R P (x ∷ xs) [] a h = absurd a
zip_all R P (x ∷ xs) (y ∷ ys) a h = All-cons P y ys (h 0 x y refl a.0) (zip_all R P xs ys a.1 (λ k p q e r. h (suc k) p q e r))
