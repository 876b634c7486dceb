-- Tests over lists, and their elements by place.
use denote.Ref.{Bor}
use Rattle.std.proofs.Common.{◌≡◌, ◌≢◌, ◌+◌, ◌⊎◌, inl, inr, ℕ, zero, suc, Bool, true, false, List, [], ◌∷◌, ◌++◌, length, set, refl, sym, ap, ◌∙◌, map, append_assoc, append-nil, arith}
use Rattle.std.specs.Prelude.{Option, Some, slice_get, ◌&&◌, ◌||◌}
use Rattle.std.specs.List.{list_any, list_all, flat_map, position_or_len, All, AllByRecursion}
use Rattle.std.specs.Str.{bytes_eq}
use Rattle.std.proofs.lemmas.Slice.Eq.{bytes_eq-Decides}
use Rattle.bench_text.specs.inner.Stated.{names}

pub both_true : (a b : Bool) → (a && b) ≡ true → (a ≡ true) × (b ≡ true)
both_true true b h = (refl, h)
both_true false b h = cc

pub or_false : (a b : Bool) → (a || b) ≡ false → (a ≡ false) × (b ≡ false)
or_false true b h = cc
or_false false b h = (refl, h)

or_assoc : (a b c : Bool) → (a || (b || c)) ≡ ((a || b) || c)
or_assoc true b c = refl
or_assoc false b c = refl

pub or_right : (a b : Bool) → b ≡ true → (a || b) ≡ true
or_right true b h = refl
or_right false b h = h

pub or_left : (a b : Bool) → a ≡ true → (a || b) ≡ true
or_left true b h = refl
or_left false b h = cc

pub false_if : (b : Bool) → (b ≡ true → ⊥) → b ≡ false
false_if true h = absurd (h refl)
false_if false h = refl

pub same_name : (x y : List ℕ) → bytes_eq x y ≡ true → x ≡ y
same_name x y h = (bytes_eq-Decides x y).0 h

pub name_same : (x : List ℕ) → bytes_eq x x ≡ true
name_same x = (bytes_eq-Decides x x).1 refl

pub list_any-names : (p : List ℕ → Bool) (xs : List (Bor (List ℕ))) → list_any (λ x. p x.now) xs ≡ list_any p (names xs)
list_any-names p [] = refl
list_any-names p (x ∷ xs) = ap (λ b. p x.now || b) (list_any-names p xs)

module _ {A : Type 0} where
  pub list_any-append : (p : A → Bool) (xs ys : List A) → list_any p (xs ++ ys) ≡ (list_any p xs || list_any p ys)
  list_any-append p [] ys = refl
  list_any-append p (x ∷ xs) ys = ap (λ b. p x || b) (list_any-append p xs ys) ∙ or_assoc (p x) (list_any p xs) (list_any p ys)

  pub all_append : (p : A → Bool) (xs ys : List A) → list_all p xs ≡ true → list_all p ys ≡ true → list_all p (xs ++ ys) ≡ true
  all_append p [] ys h k = k
  all_append p (x ∷ xs) ys h k = let q = both_true (p x) (list_all p xs) h in rw (q.0, all_append p xs ys q.1 k) refl

  pub all_split : (p : A → Bool) (xs ys : List A) → list_all p (xs ++ ys) ≡ true → (list_all p xs ≡ true) × (list_all p ys ≡ true)
  all_split p [] ys h = (refl, h)
  all_split p (x ∷ xs) ys h =
      let q = both_true (p x) (list_all p (xs ++ ys)) h in
      let r = all_split p xs ys q.1 in
      (rw (q.0, r.0) refl, r.1)

  pub flat_map-push : {B : Type 0} (f : A → List B) (xs : List A) (x : A) → flat_map f (xs ++ x ∷ []) ≡ flat_map f xs ++ f x
  flat_map-push f [] x = append-nil (f x)
  flat_map-push f (y ∷ xs) x = ap (λ l. f y ++ l) (flat_map-push f xs x) ∙ sym (append_assoc (f y) (flat_map f xs) (f x))

  -- an element of a longer list is one of the list, or the last
  pub got_push : (xs : List A) (x : A) (k : ℕ) (y : A) → slice_get (xs ++ x ∷ []) k ≡ Some y → (slice_get xs k ≡ Some y) ⊎ ((k ≡ length xs) × (x ≡ y))
  got_push [] x zero y h = inr (refl, cc)
  got_push [] x (suc k) y h = cc
  got_push (z ∷ xs) x zero y h = inl h
  got_push (z ∷ xs) x (suc k) y h = by (got_push xs x k y h)
    where
      by : (slice_get xs k ≡ Some y) ⊎ ((k ≡ length xs) × (x ≡ y)) → (slice_get xs k ≡ Some y) ⊎ ((suc k ≡ suc (length xs)) × (x ≡ y))
      by (inl e) = inl e
      by (inr p) = inr (ap suc p.0, p.1)

  pub get_front : (xs ys : List A) (k : ℕ) (y : A) → slice_get xs k ≡ Some y → slice_get (xs ++ ys) k ≡ Some y
  get_front [] ys k y h = cc
  get_front (x ∷ xs) ys zero y h = h
  get_front (x ∷ xs) ys (suc k) y h = get_front xs ys k y h

  pub get_last : (xs : List A) (x : A) → slice_get (xs ++ x ∷ []) (length xs) ≡ Some x
  get_last [] x = refl
  get_last (y ∷ xs) x = get_last xs x

  pub get_set : (xs : List A) (n : ℕ) (y z : A) → slice_get xs n ≡ Some z → slice_get (set xs n y) n ≡ Some y
  get_set [] n y z h = cc
  get_set (x ∷ xs) zero y z h = refl
  get_set (x ∷ xs) (suc n) y z h = get_set xs n y z h

  pub get_set_other : (xs : List A) (n m : ℕ) (y : A) → m ≢ n → slice_get (set xs n y) m ≡ slice_get xs m
  get_set_other [] n m y h = refl
  get_set_other (x ∷ xs) zero zero y h = absurd (h refl)
  get_set_other (x ∷ xs) zero (suc m) y h = refl
  get_set_other (x ∷ xs) (suc n) zero y h = refl
  get_set_other (x ∷ xs) (suc n) (suc m) y h = get_set_other xs n m y (λ e. h (ap suc e))

  pub some_same : (o : Option A) (x y : A) → o ≡ Some x → o ≡ Some y → x ≡ y
  some_same o x y h k = cc

pub same_or_not : (n m : ℕ) → (n ≡ m) ⊎ (n ≢ m)
same_or_not zero zero = inl refl
same_or_not zero (suc m) = inr (λ e. cc)
same_or_not (suc n) zero = inr (λ e. cc)
same_or_not (suc n) (suc m) = by (same_or_not n m)
  where
    by : (n ≡ m) ⊎ (n ≢ m) → (suc n ≡ suc m) ⊎ (suc n ≢ suc m)
    by (inl e) = inl (ap suc e)
    by (inr f) = inr (λ (e : suc n ≡ suc m). f (omega arith))

pub none-any : {A : Type 0} (p : A → Bool) (xs : List A) → ((k : ℕ) (y : A) → slice_get xs k ≡ Some y → p y ≡ false) → list_any p xs ≡ false
none-any p [] h = refl
none-any p (x ∷ xs) h = rw (h 0 x refl, none-any p xs (λ k y e. h (suc k) y e)) refl

pub some-any : {A : Type 0} (p : A → Bool) (xs : List A) (k : ℕ) (y : A) → slice_get xs k ≡ Some y → p y ≡ true → list_any p xs ≡ true
some-any p [] k y e h = cc
some-any p (x ∷ xs) zero y e h = let s : x ≡ y = cc in let t : p x ≡ true = ap p s ∙ h in rw t refl
some-any p (x ∷ xs) (suc k) y e h = or_right (p x) (list_any p xs) (some-any p xs k y e h)

pub list_any-map : {A B : Type 0} (p : B → Bool) (f : A → B) (xs : List A) → list_any p (map f xs) ≡ list_any (λ x. p (f x)) xs
list_any-map p f [] = refl
list_any-map p f (x ∷ xs) = ap (λ b. p (f x) || b) (list_any-map p f xs)

pub list_all-map : {A B : Type 0} (p : B → Bool) (f : A → B) (xs : List A) → list_all p (map f xs) ≡ list_all (λ x. p (f x)) xs
list_all-map p f [] = refl
list_all-map p f (x ∷ xs) = ap (λ b. p (f x) && b) (list_all-map p f xs)

module _ {A : Type 0} where
  -- a place in two lists, one behind the other
  pub got_append : (xs ys : List A) (j : ℕ) (y : A) → slice_get (xs ++ ys) j ≡ Some y → (slice_get xs j ≡ Some y) ⊎ ((i : ℕ) × (j ≡ length xs + i) × (slice_get ys i ≡ Some y))
  got_append [] ys j y h = let s : j ≡ 0 + j = omega arith in inr (j, s, h)
  got_append (x ∷ xs) ys zero y h = inl h
  got_append (x ∷ xs) ys (suc j) y h = by (got_append xs ys j y h)
    where
      by : (slice_get xs j ≡ Some y) ⊎ ((i : ℕ) × (j ≡ length xs + i) × (slice_get ys i ≡ Some y)) → (slice_get xs j ≡ Some y) ⊎ ((i : ℕ) × (suc j ≡ suc (length xs) + i) × (slice_get ys i ≡ Some y))
      by (inl e) = inl e
      by (inr p) = let s : suc j ≡ suc (length xs) + p.0 = omega (arith, p.1) in inr (p.0, s, p.2)

  pub get_back : (xs ys : List A) (i : ℕ) (y : A) → slice_get ys i ≡ Some y → slice_get (xs ++ ys) (length xs + i) ≡ Some y
  get_back [] ys i y h = let s : 0 + i ≡ i = omega arith in rw s h
  get_back (x ∷ xs) ys i y h = let s : suc (length xs) + i ≡ suc (length xs + i) = omega arith in rw s (get_back xs ys i y h)

  -- an element of a mapped list is that of one of the list
  pub got_map : {B : Type 0} (f : A → B) (xs : List A) (j : ℕ) (z : B) → slice_get (map f xs) j ≡ Some z → (m : A) × (slice_get xs j ≡ Some m) × (f m ≡ z)
  got_map f [] j z h = cc
  got_map f (x ∷ xs) zero z h = let s : f x ≡ z = cc in (x, refl, s)
  got_map f (x ∷ xs) (suc j) z h = got_map f xs j z h

  pub get_map : {B : Type 0} (f : A → B) (xs : List A) (j : ℕ) (m : A) → slice_get xs j ≡ Some m → slice_get (map f xs) j ≡ Some (f m)
  get_map f [] j m h = cc
  get_map f (x ∷ xs) zero m h = let s : x ≡ m = cc in ap (λ y. Some (f y)) s
  get_map f (x ∷ xs) (suc j) m h = get_map f xs j m h

  -- the first place, where there is only one
  pub only_place : (p : A → Bool) (xs : List A) (k : ℕ) (y : A) → slice_get xs k ≡ Some y → p y ≡ true → ((j : ℕ) (z : A) → slice_get xs j ≡ Some z → p z ≡ true → j ≡ k) → position_or_len p xs ≡ k
  only_place p [] k y e h u = cc
  only_place p (x ∷ xs) zero y e h u = let s : x ≡ y = cc in let t : p x ≡ true = ap p s ∙ h in rw t refl
  only_place p (x ∷ xs) (suc k) y e h u =
      let f : p x ≡ false = false_if (p x) (λ (t : p x ≡ true). let z : 0 ≡ suc k = u 0 x refl t in cc) in
      let n = only_place p xs k y e h (λ (j : ℕ) (z : A) (g : slice_get xs j ≡ Some z) (t : p z ≡ true). let s : suc j ≡ suc k = u (suc j) z g t in omega arith) in
      rw f (omega (arith, n))

  pub all-got : (p : A → Bool) (xs : List A) → ((k : ℕ) (y : A) → slice_get xs k ≡ Some y → p y ≡ true) → list_all p xs ≡ true
  all-got p [] h = refl
  all-got p (x ∷ xs) h = rw (h 0 x refl, all-got p xs (λ k y e. h (suc k) y e)) refl

  pub all-flat_map : {B : Type 0} (p : B → Bool) (f : A → List B) (xs : List A) → list_all p (flat_map f xs) ≡ true → list_all (λ x. list_all p (f x)) xs ≡ true
  all-flat_map p f [] h = refl
  all-flat_map p f (x ∷ xs) h = let q = all_split p (f x) (flat_map f xs) h in rw (q.0, all-flat_map p f xs q.1) refl

  pub flat_map-all : {B : Type 0} (p : B → Bool) (f : A → List B) (xs : List A) → list_all (λ x. list_all p (f x)) xs ≡ true → list_all p (flat_map f xs) ≡ true
  flat_map-all p f [] h = refl
  flat_map-all p f (x ∷ xs) h =
      let q = both_true (list_all p (f x)) (list_all (λ y. list_all p (f y)) xs) h in
      all_append p (f x) (flat_map f xs) q.0 (flat_map-all p f xs q.1)

-- what holds of each element holds at each place
pub index-all : {A : Type 0} (P : A → Type 0) (xs : List A) → AllByRecursion P xs → All P xs
index-all P [] h k d b = absurd (omega arith)
index-all P (x ∷ xs) h zero d b = h.0
index-all P (x ∷ xs) h (suc k) d b = index-all P xs h.1 k d (omega arith)
