-- The line of a loop.
use Rattle.std.proofs.Common.{◌≡◌, ◌≢◌, ◌<◌, ◌≤◌, ◌+◌, ◌-◌, ◌⊎◌, inl, inr, ℕ, zero, suc, Bool, true, false, cond, List, [], ◌∷◌, ◌++◌, length, get_or, refl, sym, ap, ◌∙◌, map, subst, arith, length-append}
use Rattle.std.specs.Prelude.{Option, Some, None, option_map, find, slice_get, nat_eq}
use Rattle.std.specs.List.{AllByRecursion, filter}
use Rattle.std.proofs.lemmas.List.{length-map, map-append}
use Rattle.std.proofs.lemmas.List.Concat.{flat_map-append}
use Rattle.std.proofs.lemmas.Option.{slice_get-get_or, slice_get_within}
use Rattle.std.proofs.lemmas.Bool.{false≢true}
use Rattle.std.proofs.lemmas.Bool.Decides.{nat_tests}
use Rattle.smallvec.specs.SmallVec.{SmallVec}
use Rattle.statement.specs.declared.kinds.Kind.{Kind}
use Rattle.netlist.specs.Netlist.{is_gate, IsOnLoop}
use Rattle.statement.specs.Netlists.{gates}
use Rattle.bench_text.specs.declared.numbered.Role.{Role}
use Rattle.bench_text.specs.declared.numbered.Role.TheVariants as role
use Rattle.bench_text.specs.declared.numbered.Numbered.{Numbered}
use Rattle.bench_text.specs.declared.numbered.Numbered.TheVariants as numbered
use Rattle.bench_text.specs.declared.numbered.Entry.{Entry}
use Rattle.bench_text.specs.Forms.{Statement, Nothing, Input, Output, Definition}
use Rattle.bench_text.specs.Said.{Said, statements_of}
use Rattle.bench_text.specs.Texts.{defined, inputs_of, definitions_of, signals_of}
use Rattle.statement.specs.Benches.{name_at}
use Rattle.bench_text.specs.inner.NewNames.{AreDistinct}
use Rattle.bench_text.specs.inner.Numbered.{spelling_of, spelling_of_entry, definition_number, definition_numbers, defines_number, IsDraft}
use Rattle.bench_text.specs.Netlists.{id_of, netlist_of}
use Rattle.bench_text.specs.Reading.{DefinesOnLoop, IsFirstOnLoop}
use Rattle.bench_text.specs.inner.Loops.{IsDefinedAt}
use Rattle.bench_text.proofs.Lists.{get_front, get_back, got_append}
use Rattle.bench_text.proofs.Runs.{either}
use Rattle.bench_text.proofs.DraftLemmas.{signals-spelled}
use Rattle.bench_text.proofs.PartLemmas.{id-place}
use Rattle.bench_text.proofs.FineLemmas.{IsFine}
use Rattle.bench_text.proofs.FormedLemmas.{contains-got, got-contains, id-at, definition-place-of}

-- what is found stands between what is before it and what is after it
pub record IsFound (A : Type 0) (p : A → Bool) (xs : List A) (x : A) : Type 0 where
  pub before : List A
  pub after : List A
  pub split : xs ≡ before ++ x ∷ after
  pub passes : p x ≡ true

pub found-at : {A : Type 0} (p : A → Bool) (xs : List A) (x : A) → find p xs ≡ Some x → IsFound A p xs x
found-at p [] x h = cc
found-at {A} p (y ∷ xs) x h = by (either (p y)) (λ (f : find p xs ≡ Some x). found-at p xs x f)
  where
    by : (p y ≡ true) ⊎ (p y ≡ false) → (find p xs ≡ Some x → IsFound A p xs x) → IsFound A p (y ∷ xs) x
    by (inl t) more =
        let e : Some y ≡ Some x = ap (λ b. cond b (Some y) (find p xs)) (sym t) ∙ h in
        let s : y ≡ x = cc in
        record { before = []; after = xs; split = ap (λ z. z ∷ xs) s; passes = ap p (sym s) ∙ t }
    by (inr f) more =
        let e : find p xs ≡ Some x = ap (λ b. cond b (Some y) (find p xs)) (sym f) ∙ h in
        let r = more e in
        record { before = y ∷ r.before; after = r.after; split = ap (λ l. y ∷ l) r.split; passes = r.passes }

same-nat : (n m : ℕ) → nat_eq n m ≡ true → n ≡ m
same-nat n m h = grind (arith, nat_tests)

nat-same : (n : ℕ) → nat_eq n n ≡ true
nat-same n = grind (arith, nat_tests)

-- the definition of a number
pub record IsDefinitionOf (number : ℕ) (s : Numbered) : Type 0 where
  pub kind : Kind
  pub pins : SmallVec ℕ
  pub is : s ≡ numbered.Definition number kind pins

definition-of : (number : ℕ) (s : Numbered) → defines_number number s ≡ true → IsDefinitionOf number s
definition-of number (numbered.Input n) h = cc
definition-of number (numbered.Output n) h = cc
definition-of number (numbered.Definition n kind pins) h = record { kind = kind; pins = pins; is = ap (λ m. numbered.Definition m kind pins) (same-nat n number h) }

-- a number of a definition is found
find-cons : (p : Entry → Bool) (e : Entry) (es : List Entry) → find p (e ∷ es) ≡ None → (p e ≡ false) × (find p es ≡ None)
find-cons p e es h = by (p e) refl
  where
    by : (b : Bool) → p e ≡ b → (p e ≡ false) × (find p es ≡ None)
    by true t = let f : Some e ≡ None = ap (λ b. cond b (Some e) (find p es)) (sym t) ∙ h in cc
    by false t = (t, ap (λ b. cond b (Some e) (find p es)) (sym t) ∙ h)

number-defines : (n k : ℕ) (s : Numbered) → slice_get (definition_number s) k ≡ Some n → defines_number n s ≡ true
number-defines n k (numbered.Input m) h = cc
number-defines n k (numbered.Output m) h = cc
number-defines n zero (numbered.Definition m kind pins) h = let s : m ≡ n = cc in ap (λ i. nat_eq i n) s ∙ nat-same n
number-defines n (suc k) (numbered.Definition m kind pins) h = cc

pub not-missing : (n k : ℕ) (es : List Entry) → slice_get (definition_numbers es) k ≡ Some n → find (λ (e : Entry). defines_number n e.statement) es ≡ None → ⊥
not-missing n k [] h f = cc
not-missing n k (e ∷ es) h f = by (got_append (definition_number e.statement) (definition_numbers es) k n h) (λ (i : ℕ) (g : slice_get (definition_numbers es) i ≡ Some n). not-missing n i es g (find-cons (λ (x : Entry). defines_number n x.statement) e es f).1)
  where
    by : (slice_get (definition_number e.statement) k ≡ Some n) ⊎ ((i : ℕ) × (k ≡ length (definition_number e.statement) + i) × (slice_get (definition_numbers es) i ≡ Some n))
        → ((i : ℕ) → slice_get (definition_numbers es) i ≡ Some n → ⊥) → ⊥
    by (inl g) more = false≢true (sym (find-cons (λ (x : Entry). defines_number n x.statement) e es f).0 ∙ number-defines n k e.statement g)
    by (inr p) more = more p.0 p.2

line-option : (o : Option Entry) (line : ℕ) → Some line ≡ option_map (λ (e : Entry). e.line) o → (e : Entry) × (o ≡ Some e) × (e.line ≡ line)
line-option None line h = cc
line-option (Some e) line h = let s : e.line ≡ line = cc in (e, refl, s)

none-option : (o : Option Entry) → None ≡ option_map (λ (e : Entry). e.line) o → o ≡ None
none-option None h = refl
none-option (Some e) h = cc

module _ (names : List (List ℕ)) (roles : List Role) (es : List Entry) (ins defs outs : List ℕ) (d : IsDraft names roles es ins defs outs) where
  abbrev all : List Said
  all = map (spelling_of_entry names) es

  pub place-below : (count z : ℕ) → count ≡ length ins → length ins ≤ z → z < length (signals_of (statements_of all)) → z - count < length defs
  place-below count z e h k =
      omega (arith, e, h, k, ap length (signals-spelled names roles es ins defs outs d), length-append (map (name_at names) ins) (map (name_at names) defs), length-map ins (name_at names), length-map defs (name_at names))

  module _ (count z number : ℕ) (e : count ≡ length ins) (h : length ins ≤ z) (k : z < length (signals_of (statements_of all))) (g : number ≡ get_or defs (z - count) number) where
    number-at : slice_get defs (z - count) ≡ Some number
    number-at = slice_get-get_or defs (z - count) number (place-below count z e h k) ∙ ap (λ x. Some x) (sym g)

    pub never-missing : None ≡ option_map (λ (x : Entry). x.line) (find (λ (x : Entry). defines_number number x.statement) es) → ⊥
    never-missing f = not-missing number (z - count) es (ap (λ l. slice_get l (z - count)) (sym d.definitions) ∙ number-at) (none-option _ f)

    pub defined-at : (line : ℕ) → Some line ≡ option_map (λ (x : Entry). x.line) (find (λ (x : Entry). defines_number number x.statement) es) → IsDefinedAt all z line
    defined-at line f =
        let o = line-option _ line f in
        let r = found-at (λ (x : Entry). defines_number number x.statement) es o.0 o.1 in
        let s = definition-of number o.0.statement r.passes in
        let unread : role.Definition (z - count) ≢ role.Read = λ (x : role.Definition (z - count) ≡ role.Read). cc in
        let i = id-place names roles es ins defs outs d number (role.Definition (z - count)) (d.definition (z - count) number number-at) unread in
        record {
          before = map (spelling_of_entry names) r.before;
          note = spelling_of_entry names o.0;
          after = map (spelling_of_entry names) r.after;
          z = name_at names number;
          gate = Some s.kind;
          pins = map (name_at names) s.pins.items;
          split = ap (map (spelling_of_entry names)) r.split ∙ map-append (spelling_of_entry names) r.before (o.0 ∷ r.after);
          here = o.2;
          defines = ap (spelling_of names) s.is;
          signal_is = omega (arith, i, e, h);
        }

-- a statement whose definition is on no loop
not-on : (ss : List Statement) (s : Statement) → ((k : ℕ) (y : List ℕ) → slice_get (defined s) k ≡ Some y → ¬ IsOnLoop (netlist_of ss) (id_of (signals_of ss) y)) → ¬ DefinesOnLoop ss s
not-on ss Nothing h = λ x. x
not-on ss (Input x) h = λ y. y
not-on ss (Output x) h = λ y. y
not-on ss (Definition z gate pins) h = h 0 z refl

earlier-none : (ss : List Statement) (before : List Said)
    → ((k : ℕ) (y : List ℕ) → slice_get (definitions_of (statements_of before)) k ≡ Some y → ¬ IsOnLoop (netlist_of ss) (id_of (signals_of ss) y))
    → AllByRecursion (λ (s : Said). ¬ DefinesOnLoop ss s.statement) before
earlier-none ss [] h = tt
earlier-none ss (b ∷ before) h = (
  not-on ss b.statement (λ (k : ℕ) (y : List ℕ) (e : slice_get (defined b.statement) k ≡ Some y). h k y (get_front (defined b.statement) (definitions_of (statements_of before)) k y e)),
  earlier-none ss before (λ (k : ℕ) (y : List ℕ) (e : slice_get (definitions_of (statements_of before)) k ≡ Some y).
      h (length (defined b.statement) + k) y (get_back (defined b.statement) (definitions_of (statements_of before)) k y e)),
)

module _ (all : List Said) (apart : AreDistinct (signals_of (statements_of all))) (z line : ℕ) (at : IsDefinedAt all z line) where
  abbrev ss : List Statement
  ss = statements_of all

  abbrev early : List (List ℕ)
  early = definitions_of (statements_of at.before)

  abbrev late : List (List ℕ)
  late = definitions_of (statements_of (at.note ∷ at.after))

  split-definitions : definitions_of ss ≡ early ++ late
  split-definitions =
      ap (λ l. definitions_of (statements_of l)) at.split ∙ ap definitions_of (map-append (λ (s : Said). s.statement) at.before (at.note ∷ at.after))
      ∙ flat_map-append defined (statements_of at.before) (statements_of (at.note ∷ at.after))

  place-of : (k : ℕ) (y : List ℕ) → slice_get (early ++ late) k ≡ Some y → id_of (signals_of ss) y ≡ length (inputs_of ss) + k
  place-of k y e =
      id-at (signals_of ss) apart (length (inputs_of ss) + k) y (get_back (inputs_of ss) (definitions_of ss) k y (ap (λ l. slice_get l k) split-definitions ∙ e))

  late-first : slice_get late 0 ≡ Some at.z
  late-first = ap (λ s. slice_get (defined s ++ definitions_of (statements_of at.after)) 0) at.defines

  its-place : z ≡ length (inputs_of ss) + (length early + 0)
  its-place = sym at.signal_is ∙ place-of (length early + 0) at.z (get_back early late 0 at.z late-first)

  -- the definitions before it have lesser numbers
  lesser : (k : ℕ) (y : List ℕ) → slice_get early k ≡ Some y → id_of (signals_of ss) y < z
  lesser k y e = let p = place-of k y (get_front early late k y e) in let w = slice_get_within early k y e in omega (arith, p, w, its-place)

  pub first-on-loop : IsOnLoop (netlist_of ss) z → ((y : ℕ) → y < z → ¬ IsOnLoop (netlist_of ss) y) → IsFirstOnLoop all line
  first-on-loop h least = record {
    before = at.before;
    note = at.note;
    after = at.after;
    split = at.split;
    here = at.here;
    on_loop = subst (DefinesOnLoop ss) (sym at.defines) (subst (IsOnLoop (netlist_of ss)) (sym at.signal_is) h);
    first = earlier-none ss at.before (λ (k : ℕ) (y : List ℕ) (e : slice_get early k ≡ Some y). least (id_of (signals_of ss) y) (lesser k y e));
  }

-- a gate on a loop is no input
kept-was : {A : Type 0} (p : A → Bool) (xs : List A) (k : ℕ) (x : A) → slice_get (filter p xs) k ≡ Some x → (j : ℕ) × (slice_get xs j ≡ Some x)
kept-was p [] k x h = cc
kept-was {A} p (y ∷ xs) k x h = by (p y) refl k h (λ (i : ℕ) (g : slice_get (filter p xs) i ≡ Some x). kept-was p xs i x g)
  where
    by : (b : Bool) → p y ≡ b → (i : ℕ) → slice_get (filter p (y ∷ xs)) i ≡ Some x → ((m : ℕ) → slice_get (filter p xs) m ≡ Some x → (j : ℕ) × (slice_get xs j ≡ Some x)) → (j : ℕ) × (slice_get (y ∷ xs) j ≡ Some x)
    by true t zero g more = (0, ap (λ l. slice_get l 0) (sym (ap (λ b. cond b (y ∷ filter p xs) (filter p xs)) t)) ∙ g)
    by true t (suc i) g more = let r = more i (sym (ap (λ b. slice_get (cond b (y ∷ filter p xs) (filter p xs)) (suc i)) t) ∙ g) in (suc r.0, r.1)
    by false t i g more = let r = more i (sym (ap (λ b. slice_get (cond b (y ∷ filter p xs) (filter p xs)) i) t) ∙ g) in (suc r.0, r.1)

pub on-loop-place : (ss : List Statement) → AreDistinct (signals_of ss) → AllByRecursion IsFine ss → (z : ℕ) → IsOnLoop (netlist_of ss) z → (length (inputs_of ss) ≤ z) × (z < length (signals_of ss))
on-loop-place ss apart fine z h =
    let r = h.1 z h.2 in
    let g = r.1.1 in
    let p = contains-got (gates (netlist_of ss)) r.1.0 g in
    let q = kept-was is_gate (netlist_of ss).definitions p.0 r.1.0 p.1 in
    let w = definition-place-of ss apart fine r.1.0 (got-contains (netlist_of ss).definitions r.1.0 q.0 q.1) in
    subst (λ i. (length (inputs_of ss) ≤ i) × (i < length (signals_of ss))) r.1.2 w
