-- The netlist that statements stand for is well formed.
use Rattle.std.proofs.Common.{◌≡◌, ◌≢◌, ◌<◌, ◌≤◌, ◌+◌, ◌⊎◌, inl, inr, ℕ, zero, suc, Bool, true, false, cond, List, [], ◌∷◌, ◌++◌, length, get_or, refl, sym, ap, ◌∙◌, map, subst, arith}
use Rattle.std.specs.Prelude.{Some, None, slice_get, fold, ◌||◌, if◌then◌else◌, IsTrue}
use Rattle.std.specs.List.{list_all, list_any, flat_map, All, AllByRecursion, Contains}
use Rattle.std.specs.Str.{bytes_eq}
use Rattle.std.proofs.lemmas.List.{length-map, map-append}
use Rattle.std.proofs.lemmas.Option.{slice_get_within, slice_get-get_or, get_or_from_slice_get}
use Rattle.std.proofs.lemmas.Bool.{false≢true}
use Rattle.netlist.specs.Gates.{allows_pins}
use Rattle.statement.specs.Netlists.{IsName, Netlist, Definition as Equation, signals}
use Rattle.netlist.specs.Conditions.{IsWellFormed, HasReader}
use Rattle.bench_text.specs.declared.refusal.BenchKind.{BenchKind}
use Rattle.bench_text.specs.declared.refusal.BenchKind.TheVariants.{BadPins}
use Rattle.bench_text.specs.Forms.{Statement, Nothing, Input, Output, Definition}
use Rattle.bench_text.specs.Texts.{inputs_of, definitions_of, signals_of, output}
use Rattle.bench_text.specs.Sights.{with_name, distinct}
use Rattle.bench_text.specs.inner.NewNames.{AreDistinct}
use Rattle.bench_text.specs.Whole.{outputs_of, read_names, reads_from}
use Rattle.bench_text.specs.Netlists.{id_of, equation, netlist_of}
use Rattle.bench_text.proofs.Lists.{both_true, all_append, same_name, name_same, some_same, got_push, get_back, got_map, get_map, only_place, index-all, some-any}
use Rattle.bench_text.proofs.Runs.{either}
use Rattle.bench_text.proofs.FineLemmas.{IsFine}

-- elements and their places
module _ {A : Type 0} where
  pub contains-got : (xs : List A) (x : A) → Contains xs x → (k : ℕ) × (slice_get xs k ≡ Some x)
  contains-got xs x c = (c.0, slice_get-get_or xs c.0 x c.1 ∙ ap (λ y. Some y) c.2)

  pub got-contains : (xs : List A) (x : A) (k : ℕ) → slice_get xs k ≡ Some x → Contains xs x
  got-contains xs x k e = (k, slice_get_within xs k x e, get_or_from_slice_get xs k x x e)

  pub got-all : (P : A → Type 0) (xs : List A) → All P xs → (k : ℕ) (x : A) → slice_get xs k ≡ Some x → P x
  got-all P xs h k x e = subst P (get_or_from_slice_get xs k x x e) (h k x (slice_get_within xs k x e))

-- a name that is known has a place
pub any-got : (x : List ℕ) (xs : List (List ℕ)) → list_any (bytes_eq x) xs ≡ true → (k : ℕ) × (slice_get xs k ≡ Some x)
any-got x [] h = cc
any-got x (y ∷ xs) h = by (either (bytes_eq x y)) (λ (f : list_any (bytes_eq x) xs ≡ true). any-got x xs f)
  where
    by : (bytes_eq x y ≡ true) ⊎ (bytes_eq x y ≡ false) → (list_any (bytes_eq x) xs ≡ true → (k : ℕ) × (slice_get xs k ≡ Some x)) → (k : ℕ) × (slice_get (y ∷ xs) k ≡ Some x)
    by (inl t) more = (0, ap (λ z. Some z) (sym (same_name x y t)))
    by (inr f) more = let p = more (ap (λ b. b || list_any (bytes_eq x) xs) (sym f) ∙ h) in (suc p.0, p.1)

-- the first places of names are distinct
distinct-if : (b : Bool) (xs : List (List ℕ)) (x : List ℕ) → list_any (bytes_eq x) xs ≡ b → AreDistinct xs → AreDistinct (if b then xs else xs ++ x ∷ [])
distinct-if true xs x h d i j y e f = d i j y e f
distinct-if false xs x h d i j y e f = by (got_push xs x i y e) (got_push xs x j y f)
  where
    by : (slice_get xs i ≡ Some y) ⊎ ((i ≡ length xs) × (x ≡ y)) → (slice_get xs j ≡ Some y) ⊎ ((j ≡ length xs) × (x ≡ y)) → i ≡ j
    by (inl a) (inl b) = d i j y a b
    by (inl a) (inr b) = absurd (false≢true (sym h ∙ some-any (bytes_eq x) xs i y a (ap (bytes_eq x) (sym b.1) ∙ name_same x)))
    by (inr a) (inl b) = absurd (false≢true (sym h ∙ some-any (bytes_eq x) xs j y b (ap (bytes_eq x) (sym a.1) ∙ name_same x)))
    by (inr a) (inr b) = a.0 ∙ sym b.0

fold-distinct : (ys xs : List (List ℕ)) → AreDistinct xs → AreDistinct (fold with_name xs ys)
fold-distinct [] xs d = d
fold-distinct (y ∷ ys) xs d = fold-distinct ys (with_name xs y) (distinct-if (list_any (bytes_eq y) xs) xs y refl d)

no_names : AreDistinct []
no_names i j x e f = cc

pub distinct-distinct : (ys : List (List ℕ)) → AreDistinct (distinct ys)
distinct-distinct ys = fold-distinct ys [] no_names

-- what passes a test still does in the order of first places
all-if : (p : List ℕ → Bool) (b : Bool) (ys : List (List ℕ)) (x : List ℕ) → list_all p ys ≡ true → p x ≡ true → list_all p (if b then ys else ys ++ x ∷ []) ≡ true
all-if p true ys x h k = h
all-if p false ys x h k = all_append p ys (x ∷ []) h (rw k refl)

all-fold : (p : List ℕ → Bool) (xs ys : List (List ℕ)) → list_all p ys ≡ true → list_all p xs ≡ true → list_all p (fold with_name ys xs) ≡ true
all-fold p [] ys h k = h
all-fold p (x ∷ xs) ys h k = let q = both_true (p x) (list_all p xs) k in all-fold p xs (with_name ys x) (all-if p (list_any (bytes_eq x) ys) ys x h q.0) q.1

output-read : (p : List ℕ → Bool) (s : Statement) → list_all p (read_names s) ≡ true → list_all p (output s) ≡ true
output-read p Nothing h = refl
output-read p (Input x) h = refl
output-read p (Output x) h = h
output-read p (Definition z gate pins) h = refl

outputs-read : (p : List ℕ → Bool) (ss : List Statement) → list_all (λ s. list_all p (read_names s)) ss ≡ true → list_all p (outputs_of ss) ≡ true
outputs-read p [] h = refl
outputs-read p (s ∷ ss) h =
    let q = both_true (list_all p (read_names s)) (list_all (λ x. list_all p (read_names x)) ss) h in
    all_append p (output s) (outputs_of ss) (output-read p s q.0) (outputs-read p ss q.1)

pub outputs-known : (p : List ℕ → Bool) (ss : List Statement) → list_all (λ s. list_all p (read_names s)) ss ≡ true → list_all p (distinct (outputs_of ss)) ≡ true
outputs-known p ss h = all-fold p (outputs_of ss) [] refl (outputs-read p ss h)

pub all-got-true : {A : Type 0} (p : A → Bool) (xs : List A) → list_all p xs ≡ true → (k : ℕ) (x : A) → slice_get xs k ≡ Some x → p x ≡ true
all-got-true p [] h k x e = cc
all-got-true p (y ∷ xs) h zero x e = let s : y ≡ x = cc in ap p (sym s) ∙ (both_true (p y) (list_all p xs) h).0
all-got-true p (y ∷ xs) h (suc k) x e = all-got-true p xs (both_true (p y) (list_all p xs) h).1 k x e

module _ (sig : List (List ℕ)) (apart : AreDistinct sig) where
  -- a signal's number is its place
  pub id-at : (k : ℕ) (x : List ℕ) → slice_get sig k ≡ Some x → id_of sig x ≡ k
  id-at k x e = only_place (bytes_eq x) sig k x e (name_same x)
      (λ (j : ℕ) (z : List ℕ) (f : slice_get sig j ≡ Some z) (t : bytes_eq x z ≡ true). apart j k x (f ∙ ap (λ y. Some y) (sym (same_name x z t))) e)

  pub known-at : (x : List ℕ) → list_any (bytes_eq x) sig ≡ true → slice_get sig (id_of sig x) ≡ Some x
  known-at x h = let p = any-got x sig h in ap (slice_get sig) (id-at p.0 x p.1) ∙ p.1

  pub known-within : (x : List ℕ) → list_any (bytes_eq x) sig ≡ true → id_of sig x < length sig
  known-within x h = slice_get_within sig (id_of sig x) x (known-at x h)

  pub all-ids : (k : ℕ) → k < length sig → slice_get (map (id_of sig) sig) k ≡ Some k
  all-ids k h =
      let x = get_or sig k [] in
      let at : slice_get sig k ≡ Some x = slice_get-get_or sig k [] h in
      get_map (id_of sig) sig k x at ∙ ap (λ i. Some i) (id-at k x at)

-- statement by statement
pub definition-ids : (sig : List (List ℕ)) (ss : List Statement) → AllByRecursion IsFine ss → map (λ (d : Equation). d.id) (flat_map (equation sig) ss) ≡ map (id_of sig) (definitions_of ss)
definition-ids sig [] h = refl
definition-ids sig (Nothing ∷ ss) h = definition-ids sig ss h.1
definition-ids sig (Input x ∷ ss) h = definition-ids sig ss h.1
definition-ids sig (Output x ∷ ss) h = definition-ids sig ss h.1
definition-ids sig (Definition z None pins ∷ ss) h = let g = h.0.gate in cc
definition-ids sig (Definition z (Some kind) pins ∷ ss) h = ap (λ l. id_of sig z ∷ l) (definition-ids sig ss h.1)

if-none : (b : Bool) (k : BenchKind) → cond b None (Some k) ≡ None → b ≡ true
if-none true k h = refl
if-none false k h = cc

definition-allowed : (sig : List (List ℕ)) (ss : List Statement) → AllByRecursion IsFine ss → AllByRecursion (λ (d : Equation). IsTrue (allows_pins d.kind (length d.pins))) (flat_map (equation sig) ss)
definition-allowed sig [] h = tt
definition-allowed sig (Nothing ∷ ss) h = definition-allowed sig ss h.1
definition-allowed sig (Input x ∷ ss) h = definition-allowed sig ss h.1
definition-allowed sig (Output x ∷ ss) h = definition-allowed sig ss h.1
definition-allowed sig (Definition z None pins ∷ ss) h = let g = h.0.gate in cc
definition-allowed sig (Definition z (Some kind) pins ∷ ss) h =
    (ap (allows_pins kind) (length-map pins (id_of sig)) ∙ if-none (allows_pins kind (length pins)) BadPins h.0.gate, definition-allowed sig ss h.1)

known-pins : (sig : List (List ℕ)) → AreDistinct sig → (pins : List (List ℕ)) → list_all (λ x. list_any (bytes_eq x) sig) pins ≡ true → AllByRecursion (λ x. x < length sig) (map (id_of sig) pins)
known-pins sig apart [] h = tt
known-pins sig apart (x ∷ pins) h =
    let q = both_true (list_any (bytes_eq x) sig) (list_all (λ y. list_any (bytes_eq y) sig) pins) h in
    (known-within sig apart x q.0, known-pins sig apart pins q.1)

definition-pins : (sig : List (List ℕ)) → AreDistinct sig → (ss : List Statement) → list_all (reads_from sig) ss ≡ true → AllByRecursion (λ (d : Equation). AllByRecursion (λ x. x < length sig) d.pins) (flat_map (equation sig) ss)
definition-pins sig apart [] h = tt
definition-pins sig apart (Nothing ∷ ss) h = definition-pins sig apart ss h
definition-pins sig apart (Input x ∷ ss) h = definition-pins sig apart ss h
definition-pins sig apart (Output x ∷ ss) h = definition-pins sig apart ss (both_true (reads_from sig (Output x)) (list_all (reads_from sig) ss) h).1
definition-pins sig apart (Definition z None pins ∷ ss) h = definition-pins sig apart ss (both_true (reads_from sig (Definition z None pins)) (list_all (reads_from sig) ss) h).1
definition-pins sig apart (Definition z (Some kind) pins ∷ ss) h =
    let q = both_true (reads_from sig (Definition z (Some kind) pins)) (list_all (reads_from sig) ss) h in
    (known-pins sig apart pins q.0, definition-pins sig apart ss q.1)

input-names : (ss : List Statement) → AllByRecursion IsFine ss → AllByRecursion IsName (inputs_of ss)
input-names [] h = tt
input-names (Nothing ∷ ss) h = input-names ss h.1
input-names (Input x ∷ ss) h = (h.0.names.0, input-names ss h.1)
input-names (Output x ∷ ss) h = input-names ss h.1
input-names (Definition z gate pins ∷ ss) h = input-names ss h.1

definition-names : (ss : List Statement) → AllByRecursion IsFine ss → AllByRecursion IsName (definitions_of ss)
definition-names [] h = tt
definition-names (Nothing ∷ ss) h = definition-names ss h.1
definition-names (Input x ∷ ss) h = definition-names ss h.1
definition-names (Output x ∷ ss) h = definition-names ss h.1
definition-names (Definition z gate pins ∷ ss) h = (h.0.names.0, definition-names ss h.1)

pub append-all : {A : Type 0} (P : A → Type 0) (xs ys : List A) → AllByRecursion P xs → AllByRecursion P ys → AllByRecursion P (xs ++ ys)
append-all P [] ys h k = k
append-all P (x ∷ xs) ys h k = (h.0, append-all P xs ys h.1 k)

module _ (ss : List Statement) (apart : AreDistinct (signals_of ss)) (fine : AllByRecursion IsFine ss) where
  abbrev sig : List (List ℕ)
  sig = signals_of ss

  abbrev n : Netlist
  n = netlist_of ss

  pub definition-ids-of : map (λ (d : Equation). d.id) n.definitions ≡ map (id_of sig) (definitions_of ss)
  definition-ids-of = definition-ids sig ss fine

  pub signal-ids : signals n ≡ map (id_of sig) sig
  signal-ids = ap (λ l. map (id_of sig) (inputs_of ss) ++ l) (definition-ids sig ss fine) ∙ sym (map-append (id_of sig) (inputs_of ss) (definitions_of ss))

  pub signal-count : length (signals n) ≡ length sig
  signal-count = ap length signal-ids ∙ length-map sig (id_of sig)

  pub signal-at : (k : ℕ) → k < length sig → slice_get (signals n) k ≡ Some k
  signal-at k h = ap (λ l. slice_get l k) signal-ids ∙ all-ids sig apart k h

  -- a definition's place
  pub definition-place-of : (d : Equation) → Contains n.definitions d → (length (inputs_of ss) ≤ d.id) × (d.id < length sig)
  definition-place-of d c =
      let p = contains-got n.definitions d c in
      let q = got_map (id_of sig) (definitions_of ss) p.0 d.id (ap (λ l. slice_get l p.0) (sym definition-ids-of) ∙ get_map (λ (e : Equation). e.id) n.definitions p.0 d p.1) in
      let at : slice_get sig (length (inputs_of ss) + p.0) ≡ Some q.0 = get_back (inputs_of ss) (definitions_of ss) p.0 q.0 q.1 in
      let i : d.id ≡ length (inputs_of ss) + p.0 = sym q.2 ∙ id-at sig apart (length (inputs_of ss) + p.0) q.0 at in
      let w = slice_get_within sig (length (inputs_of ss) + p.0) q.0 at in
      (omega (arith, i), omega (arith, i, w))

  module _ (known : list_all (reads_from sig) ss ≡ true) where
    abbrev outs : List (List ℕ)
    outs = distinct (outputs_of ss)

    outs-known : list_all (λ x. list_any (bytes_eq x) sig) outs ≡ true
    outs-known = outputs-known (λ x. list_any (bytes_eq x) sig) ss known

    pub read-within : (x : ℕ) → HasReader n x → x < length sig
    read-within x (inl p) =
        let pins = got-all (λ (d : Equation). AllByRecursion (λ y. y < length sig) d.pins) n.definitions
        (index-all (λ (d : Equation). AllByRecursion (λ y. y < length sig) d.pins) n.definitions (definition-pins sig apart ss known)) (contains-got n.definitions p.0 p.1).0 p.0 (contains-got n.definitions p.0 p.1).1 in
        let at = contains-got p.0.pins x p.2 in
        got-all (λ y. y < length sig) p.0.pins (index-all (λ y. y < length sig) p.0.pins pins) at.0 x at.1
    read-within x (inr c) =
        let at = contains-got n.outputs x c in
        let q = got_map (id_of sig) outs at.0 x at.1 in
        subst (λ i. i < length sig) q.2 (known-within sig apart q.0 (all-got-true (λ y. list_any (bytes_eq y) sig) outs outs-known at.0 q.0 q.1))

    output-once : (i j d : ℕ) → i < j → j < length n.outputs → get_or n.outputs i d ≢ get_or n.outputs j d
    output-once i j d h k e =
        let a = got_map (id_of sig) outs i (get_or n.outputs i d) (slice_get-get_or n.outputs i d (omega arith)) in
        let b = got_map (id_of sig) outs j (get_or n.outputs j d) (slice_get-get_or n.outputs j d k) in
        let x = known-at sig apart a.0 (all-got-true (λ y. list_any (bytes_eq y) sig) outs outs-known i a.0 a.1) in
        let y = known-at sig apart b.0 (all-got-true (λ z. list_any (bytes_eq z) sig) outs outs-known j b.0 b.1) in
        let one : id_of sig a.0 ≡ id_of sig b.0 = a.2 ∙ e ∙ sym b.2 in
        let same : a.0 ≡ b.0 = some_same (slice_get sig (id_of sig b.0)) a.0 b.0 (ap (slice_get sig) (sym one) ∙ x) y in
        let place : i ≡ j = distinct-distinct (outputs_of ss) i j a.0 a.1 (b.1 ∙ ap (λ z. Some z) (sym same)) in
        omega arith

    name-once : (i j : ℕ) (d : List ℕ) → i < j → j < length sig → get_or sig i d ≢ get_or sig j d
    name-once i j d h k e =
        let place : i ≡ j = apart i j (get_or sig j d) (slice_get-get_or sig i d (omega arith) ∙ ap (λ z. Some z) e) (slice_get-get_or sig j d k) in
        omega arith

    pub well-formed : IsWellFormed n
    well-formed = record {
      numbered = λ k h. get_or_from_slice_get (signals n) k k 0 (signal-at k (omega (arith, signal-count)));
      named = λ x c.
          let at = contains-got (signals n) x c in
          let w = slice_get_within (signals n) at.0 x at.1 in
          let same : at.0 ≡ x = some_same (slice_get (signals n) at.0) at.0 x (signal-at at.0 (omega (arith, w, signal-count))) at.1 in
          omega (arith, w, same, signal-count);
      read_named = read-within;
      used = λ x h. inl (got-contains (signals n) x x (signal-at x h));
      names = index-all IsName sig (append-all IsName (inputs_of ss) (definitions_of ss) (input-names ss fine) (definition-names ss fine));
      distinct = name-once;
      once = output-once;
      allowed = index-all (λ (d : Equation). IsTrue (allows_pins d.kind (length d.pins))) n.definitions (definition-allowed sig ss fine);
    }
