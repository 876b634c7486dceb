-- A name more, and what stays.
use denote.Ref.{Bor}
use Rattle.std.proofs.Common.{◌≡◌, ◌<◌, ◌≤◌, ◌+◌, ◌⊎◌, inl, inr, ℕ, Bool, true, false, List, [], ◌∷◌, ◌++◌, length, take, get_or, refl, sym, ap, ◌∙◌, map, arith, length-append, ⊎_elim}
use Rattle.std.specs.Prelude.{Some, slice_get, unwrap_or, nat_lt, nat_eq, if◌then◌else◌}
use Rattle.std.specs.List.{list_any, list_all}
use Rattle.std.specs.Str.{bytes_eq}
use Rattle.std.proofs.lemmas.List.{map-append, map_push, take_more}
use Rattle.std.proofs.lemmas.Option.{slice_get_within}
use Rattle.std.proofs.lemmas.Bool.{false≢true}
use Rattle.std.proofs.lemmas.Bool.Decides.{nat_tests}
use Rattle.bench_text.specs.declared.draft.Draft.{Draft}
use Rattle.bench_text.specs.declared.numbered.Role.{Role}
use Rattle.bench_text.specs.declared.numbered.Role.TheVariants as role
use Rattle.bench_text.specs.declared.numbered.Numbered.{Numbered}
use Rattle.bench_text.specs.declared.numbered.Numbered.TheVariants.{Input, Output, Definition}
use Rattle.bench_text.specs.declared.numbered.Entry.{Entry}
use Rattle.bench_text.specs.inner.Stated.{names}
use Rattle.bench_text.specs.Forms as forms
use Rattle.statement.specs.declared.kinds.Kind.{Kind}
use Rattle.smallvec.specs.SmallVec.{SmallVec}
use Rattle.statement.specs.Benches.{name_at}
use Rattle.bench_text.specs.inner.NewNames.{AreDistinct, IsNumber}
use Rattle.bench_text.specs.inner.Numbered.{spelling_of, spelling_of_entry, numbers, are_below, with_role, IsDraft}
use Rattle.bench_text.specs.inner.Drafted.{Keeps, AreNumbers}
use Rattle.bench_text.proofs.Lists.{both_true, got_push, get_front, some-any, name_same}
use Rattle.bench_text.proofs.Runs.{either}
use Rattle.bench_text.proofs.DraftLemmas.{at_name}
use Rattle.bench_text.proofs.RoleLemmas.{roles-seen, places-seen}

-- names that keep their numbers
abbrev AreKept : List (List ℕ) → List (List ℕ) → Type 0
AreKept old new = (n : ℕ) (x : List ℕ) → slice_get old n ≡ Some x → slice_get new n ≡ Some x

module _ (old new : List (List ℕ)) (x : List ℕ) (n : ℕ) (d : IsNumber old new x n) where
  -- the name was there, or goes last
  was_there : list_any (bytes_eq x) old ≡ true → new ≡ old
  was_there t = d.names ∙ ap (λ (b : Bool). if b then old else old ++ x ∷ []) t

  goes_last : list_any (bytes_eq x) old ≡ false → new ≡ old ++ x ∷ []
  goes_last f = d.names ∙ ap (λ (b : Bool). if b then old else old ++ x ∷ []) f

  pub number-keeps : AreKept old new
  number-keeps m y e = ⊎_elim
      (λ (t : list_any (bytes_eq x) old ≡ true). ap (λ l. slice_get l m) (was_there t) ∙ e)
      (λ (f : list_any (bytes_eq x) old ≡ false). ap (λ l. slice_get l m) (goes_last f) ∙ get_front old (x ∷ []) m y e)
      (either (list_any (bytes_eq x) old))

  number-there : list_any (bytes_eq x) old ≡ true → n < length old
  number-there t = slice_get_within old n x (ap (λ l. slice_get l n) (sym (was_there t)) ∙ d.here)

  number-last : list_any (bytes_eq x) old ≡ false → n ≡ length old
  number-last f = by (got_push old x n x (ap (λ l. slice_get l n) (sym (goes_last f)) ∙ d.here))
    where
      by : (slice_get old n ≡ Some x) ⊎ ((n ≡ length old) × (x ≡ x)) → n ≡ length old
      by (inl e) = absurd (false≢true (sym f ∙ some-any (bytes_eq x) old n x e (name_same x)))
      by (inr p) = p.0

nat_eq_true : (n m : ℕ) → n ≡ m → nat_eq n m ≡ true
nat_eq_true n m h = grind (arith, nat_tests)

nat_eq_false : (n m : ℕ) → n < m → nat_eq n m ≡ false
nat_eq_false n m h = grind (arith, nat_tests)

less_more : (n m k : ℕ) → m ≤ k → nat_lt n m ≡ true → nat_lt n k ≡ true
less_more n m k h e = grind (arith, nat_tests)

all_less : (m k : ℕ) (ns : List ℕ) → m ≤ k → list_all (λ n. nat_lt n m) ns ≡ true → list_all (λ n. nat_lt n k) ns ≡ true
all_less m k [] h e = refl
all_less m k (n ∷ ns) h e = let p = both_true (nat_lt n m) (list_all (λ i. nat_lt i m) ns) e in rw (less_more n m k h p.0, all_less m k ns h p.1) refl

all_below : (m k : ℕ) (es : List Entry) → m ≤ k → list_all (λ (e : Entry). are_below m e.statement) es ≡ true → list_all (λ (e : Entry). are_below k e.statement) es ≡ true
all_below m k [] h e = refl
all_below m k (x ∷ es) h e =
    let p = both_true (are_below m x.statement) (list_all (λ (y : Entry). are_below m y.statement) es) e in
    rw (all_less m k (numbers x.statement) h p.0, all_below m k es h p.1) refl

-- the draft with a name seen
pub draft-seen : (old new : List (List ℕ)) (x : List ℕ) (n : ℕ) (roles roles' : List Role) (es : List Entry) (ins defs outs : List ℕ)
    → IsDraft old roles es ins defs outs → IsNumber old new x n → AreDistinct new → roles' ≡ with_role roles n → IsDraft new roles' es ins defs outs
draft-seen old new x n roles roles' es ins defs outs d h apart e = ⊎_elim
    (λ (t : list_any (bytes_eq x) old ≡ true).
    let same : roles' ≡ roles = e ∙ ap (λ (b : Bool). if b then roles ++ role.Read ∷ [] else roles) (nat_eq_false n (length roles) (omega (arith, number-there old new x n h t, d.paired))) in
    rw (was_there old new x n h t, same) d)
    (λ (f : list_any (bytes_eq x) old ≡ false).
    let more : roles' ≡ roles ++ role.Read ∷ [] = e ∙ ap (λ (b : Bool). if b then roles ++ role.Read ∷ [] else roles) (nat_eq_true n (length roles) (omega (arith, number-last old new x n h f, d.paired))) in
    let longer : length new ≡ length old + 1 = ap length (goes_last old new x n h f) ∙ length-append old (x ∷ []) in
    rw more (record {
      distinct = apart;
      paired = omega (arith, longer, d.paired, length-append roles (role.Read ∷ []));
      below = all_below (length old) (length new) es (omega (arith, longer)) d.below;
      inputs = d.inputs;
      definitions = d.definitions;
      outputs = d.outputs;
      input = roles-seen role.Input (λ (k : ℕ) (g : role.Input k ≡ role.Read). cc) ins roles d.input;
      as_input = places-seen role.Input (λ (k : ℕ) (g : role.Input k ≡ role.Read). cc) ins roles d.as_input;
      definition = roles-seen role.Definition (λ (k : ℕ) (g : role.Definition k ≡ role.Read). cc) defs roles d.definition;
      as_definition = places-seen role.Definition (λ (k : ℕ) (g : role.Definition k ≡ role.Read). cc) defs roles d.as_definition;
    }))
    (either (list_any (bytes_eq x) old))

-- what was spelling_of stays so
name-kept : (old new : List (List ℕ)) → AreKept old new → (n : ℕ) → nat_lt n (length old) ≡ true → name_at new n ≡ name_at old n
name-kept old new kept n h = ap (λ o. unwrap_or o []) (kept n (name_at old n) (at_name old n (grind (arith, nat_tests))))

names-kept : (old new : List (List ℕ)) → AreKept old new → (ns : List ℕ) → list_all (λ n. nat_lt n (length old)) ns ≡ true → map (name_at new) ns ≡ map (name_at old) ns
names-kept old new kept [] h = refl
names-kept old new kept (n ∷ ns) h =
    let p = both_true (nat_lt n (length old)) (list_all (λ i. nat_lt i (length old)) ns) h in
    (λ i. name-kept old new kept n p.0 i ∷ names-kept old new kept ns p.1 i)

statement-kept : (old new : List (List ℕ)) → AreKept old new → (s : Numbered) → are_below (length old) s ≡ true → spelling_of new s ≡ spelling_of old s
statement-kept old new kept (Input n) h = rw (name-kept old new kept n (both_true _ _ h).0) refl
statement-kept old new kept (Output n) h = rw (name-kept old new kept n (both_true _ _ h).0) refl
statement-kept old new kept (Definition n kind pins) h =
    let p = both_true (nat_lt n (length old)) (list_all (λ i. nat_lt i (length old)) pins.items) h in
    rw (name-kept old new kept n p.0, names-kept old new kept pins.items p.1) refl

pub entries-kept : (old new : List (List ℕ)) → AreKept old new → (es : List Entry) → list_all (λ (e : Entry). are_below (length old) e.statement) es ≡ true → map (spelling_of_entry new) es ≡ map (spelling_of_entry old) es
entries-kept old new kept [] h = refl
entries-kept old new kept (e ∷ es) h =
    let p = both_true (are_below (length old) e.statement) (list_all (λ (x : Entry). are_below (length old) x.statement) es) h in
    (λ i. record { line = e.line; statement = statement-kept old new kept e.statement p.0 i } ∷ entries-kept old new kept es p.1 i)

pub keeps-more : (a b c : Draft) → Keeps a b → Keeps b c → Keeps a c
keeps-more a b c h k = record { said = k.said ∙ h.said; lines = k.lines ∙ h.lines; names = λ n x e. k.names n x (h.names n x e) }

-- the numbers of names
pub numbers-kept : (old new : List (List ℕ)) → AreKept old new → (ns : List ℕ) (xs : List (List ℕ)) → AreNumbers old ns xs → AreNumbers new ns xs
numbers-kept old new kept [] [] e = refl
numbers-kept old new kept [] (x ∷ xs) e = cc
numbers-kept old new kept (n ∷ ns) [] e = cc
numbers-kept old new kept (n ∷ ns) (x ∷ xs) e =
    let here : slice_get old n ≡ Some x = cc in
    let more : AreNumbers old ns xs = cc in
    (λ i. kept n x here i ∷ numbers-kept old new kept ns xs more i)

pub numbers-more : (names : List (List ℕ)) (ns ms : List ℕ) (n : ℕ) (xs ys : List (List ℕ)) (x : List ℕ) → AreNumbers names ns xs → slice_get names n ≡ Some x → ms ≡ ns ++ n ∷ [] → ys ≡ xs ++ x ∷ [] → AreNumbers names ms ys
numbers-more names ns ms n xs ys x e h f g =
    ap (map (slice_get names)) f ∙ map-append (slice_get names) ns (n ∷ []) ∙ (λ i. e i ++ h i ∷ []) ∙ sym (map-append (λ (y : List ℕ). Some y) xs (x ∷ [])) ∙ sym (ap (map (λ (y : List ℕ). Some y)) g)

-- the names before the next, and then that too
pub names-more : (xs : List (Bor (List ℕ))) (i : ℕ) (d : Bor (List ℕ)) → i < length xs → names (take (i + 1) xs) ≡ names (take i xs) ++ (get_or xs i d).now ∷ []
names-more xs i d h = ap names (take_more xs i d h) ∙ map_push _ (take i xs) (get_or xs i d)

below-get : (names : List (List ℕ)) (n : ℕ) (x : List ℕ) → slice_get names n ≡ Some x → nat_lt n (length names) ≡ true
below-get names n x e = let h = slice_get_within names n x e in grind (arith, nat_tests)

pub numbers-spell : (names : List (List ℕ)) (ns : List ℕ) (xs : List (List ℕ)) → AreNumbers names ns xs → (map (name_at names) ns ≡ xs) × (list_all (λ n. nat_lt n (length names)) ns ≡ true)
numbers-spell names [] [] e = (refl, refl)
numbers-spell names [] (x ∷ xs) e = cc
numbers-spell names (n ∷ ns) [] e = cc
numbers-spell names (n ∷ ns) (x ∷ xs) e =
    let here : slice_get names n ≡ Some x = cc in
    let more : AreNumbers names ns xs = cc in
    let p = numbers-spell names ns xs more in
    ((λ i. unwrap_or (here i) [] ∷ p.0 i), rw (below-get names n x here, p.1) refl)

-- a definition whose names have numbers
pub definition-spelled : (names : List (List ℕ)) (n : ℕ) (kind : Kind) (pins : SmallVec ℕ) (z : List ℕ) (xs : List (List ℕ)) → slice_get names n ≡ Some z → AreNumbers names pins.items xs
    → (spelling_of names (Definition n kind pins) ≡ forms.Definition z (Some kind) xs) × (are_below (length names) (Definition n kind pins) ≡ true)
definition-spelled names n kind pins z xs h k =
    let p = numbers-spell names pins.items xs k in
    ((λ i. forms.Definition (unwrap_or (h i) []) (Some kind) (p.0 i)), rw (below-get names n z h, p.1) refl)
