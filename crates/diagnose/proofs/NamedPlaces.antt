-- The strobes that count in a run, as failures.
use Rattle.std.proofs.Common.{◌≡◌, ◌≢◌, ℕ, suc, zero, ◌+◌, ◌<◌, ◌≤◌, Bool, true, false, List, [], ◌∷◌, ◌++◌, length, get_or, Option, Some, None, slice_get, refl, sym, ◌∙◌, ap, subst, inl, inr, arith, length-append}
use Rattle.std.specs.List.{All, AllPairs, Contains}
use Rattle.std.proofs.lemmas.Bool.{both_ways}
use Rattle.std.proofs.lemmas.List.Elements.{Contains-append_cases, Contains-append_left, Contains-append_right}
use Rattle.std.proofs.lemmas.List.Kept.{AllPairs-cons}
use Rattle.statement.specs.declared.kinds.Tri.{Tri}
use Rattle.statement.specs.declared.kinds.Tri.TheVariants.{X}
use Rattle.statement.specs.Runs.{Cycle, shown_at, strobe_at}
use Rattle.netlist.proofs.Lists.{All-from_contains, contains_cases, contains_head, contains_nil}
use Rattle.scan_play.proofs.Places.{below_of}
use Rattle.lane_play.specs.Counted.{Counting, counted, counted_in, one_if}
use Rattle.diagnose.specs.Failures.{Failing}

-- ---- lists of which no two are the same

pairs_rest : {A : Type 0} (R : A → A → Type 0) (x : A) (xs : List A) → AllPairs R (x ∷ xs) → AllPairs R xs
pairs_rest R x xs h i j d less l = h (suc i) (suc j) d (omega (arith, less)) (omega (arith, l))

pairs_first : {A : Type 0} (R : A → A → Type 0) (x : A) (xs : List A) → AllPairs R (x ∷ xs) → All (R x) xs
pairs_first R x xs h k d l = h zero (suc k) d (omega arith) (omega (arith, l))

pub pairs_append : {A : Type 0} (xs ys : List A) → AllPairs (λ x y. x ≢ y) xs → AllPairs (λ x y. x ≢ y) ys → ((x : A) → Contains xs x → Contains ys x → ⊥) → AllPairs (λ x y. x ≢ y) (xs ++ ys)
pairs_append [] ys h k apart = k
pairs_append {A} (x ∷ xs) ys h k apart =
    AllPairs-cons (λ a b. a ≢ b) x (xs ++ ys)
    (All-from_contains (λ b. x ≢ b) (xs ++ ys) (λ b c e. elim (Contains-append_cases xs ys b c) [
      | inl own ↦ pairs_first (λ a b. a ≢ b) x xs h own.0 b own.1 (e ∙ sym own.2)
      | inr other ↦ apart x (contains_head x xs) (subst (Contains ys) (sym e) other)
    ]))
    (pairs_append xs ys (pairs_rest (λ a b. a ≢ b) x xs h) k (λ b c d. apart b (contains_more b c) d))
  where
    contains_more : (b : A) → Contains xs b → Contains (x ∷ xs) b
    contains_more b c = (suc c.0, omega (arith, c.1), c.2)

-- ---- places

no_row : {P : Type 0} (v : Tri) → ◌≡◌ {A = Option Tri} None (Some v) → P
no_row v e = cc

module _ (counts : Counting) (blind : (c o : ℕ) (v : Tri) → counts c o X v ≡ false) (name : ℕ → ℕ → Failing) where
  one_named : Bool → ℕ → ℕ → List Failing
  one_named true c o = name c o ∷ []
  one_named false c o = []

  named_in : ℕ → ℕ → List Tri → List Tri → List Failing
  named_in c o [] vs = []
  named_in c o (s ∷ ss) [] = []
  named_in c o (s ∷ ss) (v ∷ vs) = one_named (counts c o s v) c o ++ named_in c (o + 1) ss vs

  pub named : ℕ → List Cycle → List (List Tri) → List Failing
  named c [] shown = []
  named c (x ∷ xs) [] = []
  named c (x ∷ xs) (row ∷ rows) = named_in c 0 x.strobe row ++ named (c + 1) xs rows

  -- as many as count

  one_many : (b : Bool) (c o : ℕ) → length (one_named b c o) ≡ one_if b
  unfolding one_named
  one_many true c o = refl
  one_many false c o = refl

  many_in : (c o : ℕ) (ss vs : List Tri) → length (named_in c o ss vs) ≡ counted_in counts c o ss vs
  unfolding named_in
  many_in c o [] vs = refl
  many_in c o (s ∷ ss) [] = refl
  many_in c o (s ∷ ss) (v ∷ vs) =
      let a = length-append (one_named (counts c o s v) c o) (named_in c (o + 1) ss vs) in
      let b = one_many (counts c o s v) c o in
      let d = many_in c (o + 1) ss vs in
      omega arith

  pub named_many : (c : ℕ) (xs : List Cycle) (rows : List (List Tri)) → counted counts c xs rows ≡ length (named c xs rows)
  unfolding named
  named_many c [] rows = refl
  named_many c (x ∷ xs) [] = refl
  named_many c (x ∷ xs) (row ∷ rows) =
      let a = length-append (named_in c 0 x.strobe row) (named (c + 1) xs rows) in
      let b = many_in c 0 x.strobe row in
      let d = named_many (c + 1) xs rows in
      omega arith

  -- each is at a place that counts

  one_at : (b : Bool) (c o : ℕ) (f : Failing) → Contains (one_named b c o) f → (b ≡ true) × (f ≡ name c o)
  unfolding one_named
  one_at true c o f h = (refl, elim (contains_cases (name c o) f [] h) [ inl e ↦ sym e | inr r ↦ absurd (contains_nil f r) ])
  one_at false c o f h = absurd (contains_nil f h)

  -- the place in a row
  record IsIn (c o : ℕ) (ss vs : List Tri) (f : Failing) : Type 0 where
    pub place : ℕ
    pub value : Tri
    pub shown : slice_get vs place ≡ Some value
    pub count : counts c (o + place) (get_or ss place X) value ≡ true
    pub is : f ≡ name c (o + place)

  named_in_at : (c o : ℕ) (ss vs : List Tri) (f : Failing) → Contains (named_in c o ss vs) f → IsIn c o ss vs f
  unfolding named_in
  named_in_at c o [] vs f h = absurd (contains_nil f h)
  named_in_at c o (s ∷ ss) [] f h = absurd (contains_nil f h)
  named_in_at c o (s ∷ ss) (v ∷ vs) f h = elim (Contains-append_cases (one_named (counts c o s v) c o) (named_in c (o + 1) ss vs) f h) [
    | inl own ↦
        let r = one_at (counts c o s v) c o f own in
        let e : o ≡ o + 0 = omega arith in
        record { place = 0; value = v; shown = refl; count = subst (λ k. counts c k s v ≡ true) e r.0; is = r.1 ∙ ap (name c) e }
    | inr rest ↦
        let r = named_in_at c (o + 1) ss vs f rest in
        let e : o + 1 + r.place ≡ o + suc r.place = omega arith in
        record { place = suc r.place; value = r.value; shown = r.shown; count = subst (λ k. counts c k (get_or ss r.place X) r.value ≡ true) e r.count; is = r.is ∙ ap (name c) e }
  ]

  -- the place in a run
  pub record IsAt (c : ℕ) (xs : List Cycle) (rows : List (List Tri)) (f : Failing) : Type 0 where
    pub cycle : ℕ
    pub output : ℕ
    pub value : Tri
    pub shown : shown_at rows cycle output ≡ Some value
    pub count : counts (c + cycle) output (strobe_at xs cycle output) value ≡ true
    pub is : f ≡ name (c + cycle) output

  pub named_at : (c : ℕ) (xs : List Cycle) (rows : List (List Tri)) (f : Failing) → Contains (named c xs rows) f → IsAt c xs rows f
  unfolding named
  named_at c [] rows f h = absurd (contains_nil f h)
  named_at c (x ∷ xs) [] f h = absurd (contains_nil f h)
  named_at c (x ∷ xs) (row ∷ rows) f h = elim (Contains-append_cases (named_in c 0 x.strobe row) (named (c + 1) xs rows) f h) [
    | inl own ↦
        let r = named_in_at c 0 x.strobe row f own in
        let e : c ≡ c + 0 = omega arith in
        let o : 0 + r.place ≡ r.place = omega arith in
        record {
          cycle = 0;
          output = r.place;
          value = r.value;
          shown = r.shown;
          count = subst (λ k. counts k r.place (get_or x.strobe r.place X) r.value ≡ true) e (subst (λ k. counts c k (get_or x.strobe r.place X) r.value ≡ true) o r.count);
          is = r.is ∙ (ap (name c) o ∙ ap (λ k. name k r.place) e);
        }
    | inr rest ↦
        let r = named_at (c + 1) xs rows f rest in
        let e : c + 1 + r.cycle ≡ c + suc r.cycle = omega arith in
        record {
          cycle = suc r.cycle;
          output = r.output;
          value = r.value;
          shown = r.shown;
          count = subst (λ k. counts k r.output (strobe_at xs r.cycle r.output) r.value ≡ true) e r.count;
          is = r.is ∙ ap (λ k. name k r.output) e;
        }
  ]

  -- and each that counts is there

  one_there : (b : Bool) (c o : ℕ) → b ≡ true → Contains (one_named b c o) (name c o)
  unfolding one_named
  one_there true c o e = contains_head (name c o) []
  one_there false c o e = absurd (both_ways false refl e)

  there_in : (c o : ℕ) (ss vs : List Tri) (k : ℕ) (v : Tri) → slice_get vs k ≡ Some v → counts c (o + k) (get_or ss k X) v ≡ true → Contains (named_in c o ss vs) (name c (o + k))
  unfolding named_in
  there_in c o [] vs zero v e h = absurd (both_ways (counts c (o + 0) X v) (blind c (o + 0) v) h)
  there_in c o [] vs (suc k) v e h = absurd (both_ways (counts c (o + suc k) X v) (blind c (o + suc k) v) h)
  there_in c o (s ∷ ss) [] k v e h = no_row v (none_at k ∙ e)
    where
      none_at : (k : ℕ) → ◌≡◌ {A = Option Tri} None (slice_get [] k)
      none_at zero = refl
      none_at (suc k) = refl
  there_in c o (s ∷ ss) (u ∷ vs) zero v e h =
      let at : o + 0 ≡ o = omega arith in
      let same : v ≡ u = some_tri v u (sym e) in
      let b : counts c o s u ≡ true = subst (λ x. counts c o s x ≡ true) same (subst (λ i. counts c i s v ≡ true) at h) in
      subst (λ i. Contains (one_named (counts c o s u) c o ++ named_in c (o + 1) ss vs) (name c i)) (sym at)
      (Contains-append_left (one_named (counts c o s u) c o) (named_in c (o + 1) ss vs) (name c o) (one_there (counts c o s u) c o b))
    where
      some_tri : (a b : Tri) → Some a ≡ Some b → a ≡ b
      some_tri a b e = cc
  there_in c o (s ∷ ss) (u ∷ vs) (suc k) v e h =
      let at : o + suc k ≡ o + 1 + k = omega arith in
      subst (λ i. Contains (one_named (counts c o s u) c o ++ named_in c (o + 1) ss vs) (name c i)) (sym at)
      (Contains-append_right (one_named (counts c o s u) c o) (named_in c (o + 1) ss vs) (name c (o + 1 + k))
      (there_in c (o + 1) ss vs k v e (subst (λ i. counts c i (get_or ss k X) v ≡ true) at h)))

  pub named_there : (c : ℕ) (xs : List Cycle) (rows : List (List Tri)) (i o : ℕ) (v : Tri) → shown_at rows i o ≡ Some v → counts (c + i) o (strobe_at xs i o) v ≡ true → Contains (named c xs rows) (name (c + i) o)
  unfolding named
  named_there c [] rows zero o v e h = absurd (both_ways (counts (c + 0) o X v) (blind (c + 0) o v) (subst (λ s. counts (c + 0) o s v ≡ true) (nothing_at o) h))
    where
      nothing_at : (o : ℕ) → strobe_at [] 0 o ≡ X
      nothing_at zero = refl
      nothing_at (suc o) = refl
  named_there c [] rows (suc i) o v e h = absurd (both_ways (counts (c + suc i) o X v) (blind (c + suc i) o v) (subst (λ s. counts (c + suc i) o s v ≡ true) (nothing_at o) h))
    where
      nothing_at : (o : ℕ) → strobe_at [] (suc i) o ≡ X
      nothing_at zero = refl
      nothing_at (suc o) = refl
  named_there c (x ∷ xs) [] zero o v e h = no_row v (none_at o ∙ e)
    where
      none_at : (k : ℕ) → ◌≡◌ {A = Option Tri} None (slice_get [] k)
      none_at zero = refl
      none_at (suc k) = refl
  named_there c (x ∷ xs) [] (suc i) o v e h = no_row v (none_at o ∙ e)
    where
      none_at : (k : ℕ) → ◌≡◌ {A = Option Tri} None (slice_get [] k)
      none_at zero = refl
      none_at (suc k) = refl
  named_there c (x ∷ xs) (row ∷ rows) zero o v e h =
      let at : c + 0 ≡ c = omega arith in
      let from : 0 + o ≡ o = omega arith in
      let here : counts c (0 + o) (get_or x.strobe o X) v ≡ true = subst (λ k. counts c k (get_or x.strobe o X) v ≡ true) (sym from) (subst (λ k. counts k o (get_or x.strobe o X) v ≡ true) at h) in
      subst (λ k. Contains (named_in c 0 x.strobe row ++ named (c + 1) xs rows) (name k o)) (sym at)
      (subst (λ k. Contains (named_in c 0 x.strobe row ++ named (c + 1) xs rows) (name c k)) from
      (Contains-append_left (named_in c 0 x.strobe row) (named (c + 1) xs rows) (name c (0 + o)) (there_in c 0 x.strobe row o v e here)))
  named_there c (x ∷ xs) (row ∷ rows) (suc i) o v e h =
      let at : c + suc i ≡ c + 1 + i = omega arith in
      subst (λ k. Contains (named_in c 0 x.strobe row ++ named (c + 1) xs rows) (name k o)) (sym at)
      (Contains-append_right (named_in c 0 x.strobe row) (named (c + 1) xs rows) (name (c + 1 + i) o)
      (named_there (c + 1) xs rows i o v e (subst (λ k. counts k o (strobe_at xs i o) v ≡ true) at h)))

  -- each once, where two places have two names

  module _ (bound : ℕ) (apart : (c o c' o' : ℕ) → o < bound → o' < bound → name c o ≡ name c' o' → (c ≡ c') × (o ≡ o')) where
    one_once : (b : Bool) (c o : ℕ) → AllPairs (λ f g. f ≢ g) (one_named b c o)
    unfolding one_named
    one_once true c o = λ i j d less l. absurd (omega (arith, less, l))
    one_once false c o = λ i j d less l. absurd (omega (arith, l))

    once_in : (c o : ℕ) (ss vs : List Tri) → o + length vs ≤ bound → AllPairs (λ f g. f ≢ g) (named_in c o ss vs)
    unfolding named_in
    once_in c o [] vs w = λ i j d less l. absurd (omega (arith, l))
    once_in c o (s ∷ ss) [] w = λ i j d less l. absurd (omega (arith, l))
    once_in c o (s ∷ ss) (v ∷ vs) w =
        pairs_append (one_named (counts c o s v) c o) (named_in c (o + 1) ss vs) (one_once (counts c o s v) c o) (once_in c (o + 1) ss vs (omega (arith, w)))
        (λ f h k.
        let a = one_at (counts c o s v) c o f h in
        let b = named_in_at c (o + 1) ss vs f k in
        let l = below_of vs b.place b.value b.shown in
        let e = apart c o c (o + 1 + b.place) (omega (arith, w)) (omega (arith, w, l)) (sym a.1 ∙ b.is) in
        let z = e.1 in
        absurd (omega (arith, z)))

    pub named_once : (c : ℕ) (xs : List Cycle) (rows : List (List Tri)) → All (λ row. length row ≤ bound) rows → AllPairs (λ f g. f ≢ g) (named c xs rows)
    unfolding named
    named_once c [] rows w = λ i j d less l. absurd (omega (arith, l))
    named_once c (x ∷ xs) [] w = λ i j d less l. absurd (omega (arith, l))
    named_once c (x ∷ xs) (row ∷ rows) w =
        let own : length row ≤ bound = w zero row (omega arith) in
        pairs_append (named_in c 0 x.strobe row) (named (c + 1) xs rows) (once_in c 0 x.strobe row (omega (arith, own))) (named_once (c + 1) xs rows (λ k d l. w (suc k) d (omega (arith, l))))
        (λ f h k.
        let a = named_in_at c 0 x.strobe row f h in
        let b = named_at (c + 1) xs rows f k in
        let l = below_of row a.place a.value a.shown in
        let m = at_row rows b.cycle b.output b.value b.shown in
        let n = w (suc m.0) [] (let z = m.1 in omega (arith, z)) in
        let e = apart c (0 + a.place) (c + 1 + b.cycle) b.output (omega (arith, l, own)) (let z = m.2 in omega (arith, z, n)) (sym a.is ∙ b.is) in
        let z = e.0 in
        absurd (omega (arith, z)))
      where
        at_row : (rows : List (List Tri)) (i o : ℕ) (v : Tri) → shown_at rows i o ≡ Some v → (k : ℕ) × (k < length rows) × (o < length (get_or rows k []))
        at_row [] zero o v e = no_row v (none_at o ∙ e)
          where
            none_at : (k : ℕ) → ◌≡◌ {A = Option Tri} None (slice_get [] k)
            none_at zero = refl
            none_at (suc k) = refl
        at_row [] (suc i) o v e = no_row v (none_at o ∙ e)
          where
            none_at : (k : ℕ) → ◌≡◌ {A = Option Tri} None (slice_get [] k)
            none_at zero = refl
            none_at (suc k) = refl
        at_row (r ∷ rs) zero o v e = (0, omega arith, below_of r o v e)
        at_row (r ∷ rs) (suc i) o v e = let t = at_row rs i o v e in (suc t.0, (let z = t.1 in omega (arith, z)), t.2)
