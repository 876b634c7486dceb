-- Counts of pairs, when one of them changes, and along a trail of changes.
use Rattle.std.proofs.Common.{◌≡◌, ◌≢◌, ℕ, zero, suc, ◌+◌, ◌<◌, ◌≤◌, ◌^◌, Bool, true, false, List, [], ◌∷◌, length, get_or, set, drop, refl, sym, ◌∙◌, ap, subst, arith}
use Rattle.std.specs.List.{All, AllPairs}
use Rattle.std.proofs.lemmas.List.{drop_more, get_or-set_other, length-drop, get_or-drop, get_or_default}
use Rattle.events.specs.declared.trails.Change.{Change}
use Rattle.events.specs.Trails.{undone}
use Rattle.events.proofs.Changes.{length-undone}
use Rattle.tri.specs.declared.labels.Label.{Label}
use Rattle.redundancy_cert.specs.inner.Tallies.{tally, count_pairs}

tally_le : (b : Bool) → tally b ≤ 1
tally_le true = omega arith
tally_le false = omega arith

tally_zero : (b : Bool) (m : ℕ) → tally b + m ≡ 0 → (b ≡ false) × (m ≡ 0)
tally_zero true m e = absurd (omega arith)
tally_zero false m e = (refl, omega arith)

module _ {A B : Type 0} (test : A → B → Bool) where
  -- an element of the second list changes
  pub count_right : (xs : List A) (ys : List B) (i : ℕ) (v : B) (d : A) (e : B) → i < length xs → i < length ys
      → count_pairs test xs (set ys i v) + tally (test (get_or xs i d) (get_or ys i e)) ≡ count_pairs test xs ys + tally (test (get_or xs i d) v)
  count_right [] ys i v d e l m = absurd (omega arith)
  count_right (x ∷ xs) [] i v d e l m = absurd (omega arith)
  count_right (x ∷ xs) (y ∷ ys) zero v d e l m = omega arith
  count_right (x ∷ xs) (y ∷ ys) (suc i) v d e l m = let h = count_right xs ys i v d e (omega arith) (omega arith) in omega arith

  -- an element of the first list changes
  pub count_left : (xs : List A) (ys : List B) (i : ℕ) (v : A) (d : A) (e : B) → i < length xs → i < length ys
      → count_pairs test (set xs i v) ys + tally (test (get_or xs i d) (get_or ys i e)) ≡ count_pairs test xs ys + tally (test v (get_or ys i e))
  count_left [] ys i v d e l m = absurd (omega arith)
  count_left (x ∷ xs) [] i v d e l m = absurd (omega arith)
  count_left (x ∷ xs) (y ∷ ys) zero v d e l m = omega arith
  count_left (x ∷ xs) (y ∷ ys) (suc i) v d e l m = let h = count_left xs ys i v d e (omega arith) (omega arith) in omega arith

  pub count_le : (xs : List A) (ys : List B) → count_pairs test xs ys ≤ length ys
  count_le [] ys = omega arith
  count_le (x ∷ xs) [] = omega arith
  count_le (x ∷ xs) (y ∷ ys) = let h = count_le xs ys in let t = tally_le (test x y) in omega arith

  pub count_none : (xs : List A) (ys : List B) (i : ℕ) (d : A) (e : B) → count_pairs test xs ys ≡ 0 → i < length xs → i < length ys
      → test (get_or xs i d) (get_or ys i e) ≡ false
  count_none [] ys i d e z l m = absurd (omega arith)
  count_none (x ∷ xs) [] i d e z l m = absurd (omega arith)
  count_none (x ∷ xs) (y ∷ ys) zero d e z l m = (tally_zero (test x y) (count_pairs test xs ys) z).0
  count_none (x ∷ xs) (y ∷ ys) (suc i) d e z l m = count_none xs ys i d e (tally_zero (test x y) (count_pairs test xs ys) z).1 (omega arith) (omega arith)

  some_step : (x : A) (y : B) (xs : List A) (ys : List B) (d : A) (e : B) (b : Bool) → test x y ≡ b → 0 < tally b + count_pairs test xs ys
      → (0 < count_pairs test xs ys → (i : ℕ) × (i < length xs) × (i < length ys) × (test (get_or xs i d) (get_or ys i e) ≡ true))
      → (i : ℕ) × (i < length (x ∷ xs)) × (i < length (y ∷ ys)) × (test (get_or (x ∷ xs) i d) (get_or (y ∷ ys) i e) ≡ true)
  some_step x y xs ys d e true is h more = (zero, omega arith, omega arith, is)
  some_step x y xs ys d e false is h more = let w = more (omega arith) in (suc w.0, (let l = w.1 in omega arith), (let l = w.2 in omega arith), w.3)

  pub count_some : (xs : List A) (ys : List B) (d : A) (e : B) → 0 < count_pairs test xs ys
      → (i : ℕ) × (i < length xs) × (i < length ys) × (test (get_or xs i d) (get_or ys i e) ≡ true)
  count_some [] ys d e h = absurd (omega arith)
  count_some (x ∷ xs) [] d e h = absurd (omega arith)
  count_some (x ∷ xs) (y ∷ ys) d e h = some_step x y xs ys d e (test x y) refl h (count_some xs ys d e)

  -- where no pair passes, none is counted
  pub count_zero : (xs : List A) (ys : List B) → ((i : ℕ) (d : A) (e : B) → i < length xs → i < length ys → test (get_or xs i d) (get_or ys i e) ≡ false)
      → count_pairs test xs ys ≡ 0
  count_zero [] ys h = refl
  count_zero (x ∷ xs) [] h = refl
  count_zero (x ∷ xs) (y ∷ ys) h =
      ap (λ b. tally b + count_pairs test xs ys) (h zero x y (omega arith) (omega arith))
      ∙ (let r = count_zero xs ys (λ i d e l m. h (suc i) d e (omega arith) (omega arith)) in omega arith)

-- ---- along a trail

pub undone_other : {V : Type 0} (cs : List (Change V)) (values : List V) (x : ℕ) (e : V) → All (λ (c : Change V). x ≢ c.signal) cs
    → get_or (undone cs values) x e ≡ get_or values x e
undone_other [] values x e h = refl
undone_other (c ∷ cs) values x e h =
    get_or-set_other (undone cs values) c.signal x c.before e (h zero c (omega arith))
    ∙ undone_other cs values x e (λ k d l. h (suc k) d (omega arith))

module _ {A : Type 0} (test : A → Label → Bool) (xs : List A) (values : List Label) (changes : List (Change Label))
    (size : length xs ≡ length values) (within : All (λ (c : Change Label). c.signal < length values) changes)
    (once : AllPairs (λ (c d : Change Label). c.signal ≢ d.signal) changes) (k : ℕ) (c : Change Label) (l : k < length changes) (is : c ≡ get_or changes k c) where
  later : All (λ (d : Change Label). c.signal ≢ d.signal) (drop (k + 1) changes)
  later j d m =
      let short = length-drop (k + 1) changes in
      subst (λ (b : Change Label). c.signal ≢ b.signal) (sym (get_or-drop (k + 1) changes j d))
      (subst (λ (b : Change Label). b.signal ≢ (get_or changes ((k + 1) + j) d).signal) (get_or_default changes k d c l ∙ sym is)
      (once k ((k + 1) + j) d (omega arith) (omega arith)))

  -- the counts with and without the change
  balance : (d : A) (e : Label) (count : ℕ) → count ≡ count_pairs test xs (undone (drop k changes) values)
      → count + tally (test (get_or xs c.signal d) (get_or values c.signal e))
      ≡ count_pairs test xs (undone (drop (k + 1) changes) values) + tally (test (get_or xs c.signal d) c.before)
  balance d e count h =
      let rest = drop (k + 1) changes in
      let u : List Label = undone rest values in
      let ahead : drop k changes ≡ c ∷ rest = drop_more changes k c l ∙ ap (λ (b : Change Label). b ∷ rest) (sym is) in
      let low : c.signal < length values = subst (λ (b : Change Label). b.signal < length values) (sym is) (within k c l) in
      let long : length u ≡ length values = length-undone rest values in
      let here : get_or u c.signal e ≡ get_or values c.signal e = undone_other rest values c.signal e later in
      ap (λ m. m + tally (test (get_or xs c.signal d) (get_or values c.signal e))) (h ∙ ap (λ cs. count_pairs test xs (undone cs values)) ahead)
      ∙ (ap (λ v. count_pairs test xs (set u c.signal c.before) + tally (test (get_or xs c.signal d) v)) (sym here)
      ∙ count_right test xs u c.signal c.before d e (omega arith) (omega arith))

  pub enough : (x : ℕ) (d : A) (e : Label) (count : ℕ) → x ≡ c.signal → count ≡ count_pairs test xs (undone (drop k changes) values)
      → tally (test (get_or xs x d) c.before) ≤ count + tally (test (get_or xs x d) (get_or values x e))
  enough x d e count same h =
      subst (λ y. tally (test (get_or xs y d) c.before) ≤ count + tally (test (get_or xs y d) (get_or values y e))) (sym same)
      (let b = balance d e count h in omega arith)

  pub followed : (x : ℕ) (d : A) (e : Label) (count count' : ℕ) → x ≡ c.signal → count ≡ count_pairs test xs (undone (drop k changes) values)
      → count' + tally (test (get_or xs x d) c.before) ≡ count + tally (test (get_or xs x d) (get_or values x e))
      → count' ≡ count_pairs test xs (undone (drop (k + 1) changes) values)
  followed x d e count count' same h made =
      let here : count' + tally (test (get_or xs c.signal d) c.before) ≡ count + tally (test (get_or xs c.signal d) (get_or values c.signal e)) =
      subst (λ y. count' + tally (test (get_or xs y d) c.before) ≡ count + tally (test (get_or xs y d) (get_or values y e))) same made in
      let b = balance d e count h in omega arith

pub few : {A : Type 0} (test : A → Label → Bool) (xs : List A) (values : List Label) (changes : List (Change Label)) (count : ℕ)
    → length values < 2 ^ 32 → count ≡ count_pairs test xs (undone changes values) → count < 2 ^ 62
few test xs values changes count small h =
    let a = count_le test xs (undone changes values) in
    let b = length-undone changes values in
    omega arith
