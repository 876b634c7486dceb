-- Names as signals.
use Rattle.std.proofs.Common.{◌≡◌, ◌≢◌, ◌<◌, ◌≤◌, ◌+◌, ◌⊎◌, inl, inr, ℕ, Bool, true, false, List, [], ◌∷◌, ◌++◌, length, get_or, take, refl, sym, ap, ◌∙◌, map, append_assoc, take_all, arith}
use Rattle.std.specs.Prelude.{Some, slice_get, nat_lt, nat_eq, fold, ◌||◌, if◌then◌else◌}
use Rattle.std.specs.List.{list_any, list_all, flat_map, position_or_len}
use Rattle.std.specs.Str.{bytes_eq}
use Rattle.std.proofs.lemmas.List.{length-map, map-append, map_push, take_more}
use Rattle.std.proofs.lemmas.Option.{slice_get_within}
use Rattle.std.proofs.lemmas.Bool.{false≢true}
use Rattle.std.proofs.lemmas.Bool.Decides.{nat_tests}
use Rattle.smallvec.specs.SmallVec.{SmallVec}
use Rattle.statement.specs.declared.kinds.Kind.{Kind}
use Rattle.statement.specs.Netlists.{Definition as Equation}
use Rattle.bench_text.specs.declared.numbered.Role.{Role}
use Rattle.bench_text.specs.declared.numbered.Role.TheVariants as role
use Rattle.bench_text.specs.declared.numbered.Numbered.{Numbered}
use Rattle.bench_text.specs.declared.numbered.Numbered.TheVariants.{Input, Output, Definition}
use Rattle.bench_text.specs.declared.numbered.Entry.{Entry}
use Rattle.bench_text.specs.Forms.{Statement}
use Rattle.bench_text.specs.Said.{Said, statements_of}
use Rattle.bench_text.specs.Texts.{inputs_of, signals_of}
use Rattle.statement.specs.Benches.{name_at}
use Rattle.bench_text.specs.Sights.{with_name, distinct}
use Rattle.bench_text.specs.inner.NewNames.{AreDistinct}
use Rattle.bench_text.specs.inner.Numbered.{spelling_of, spelling_of_entry, output_number, output_numbers, definition_number, are_below, with_number, IsDraft}
use Rattle.bench_text.specs.Whole.{outputs_of, reads_from}
use Rattle.bench_text.specs.Netlists.{id_of, equation}
use Rattle.bench_text.proofs.Lists.{both_true, flat_map-push, list_all-map, all_append, all-got, all-flat_map, flat_map-all, false_if, same_name, name_same, some_same, got_append, get_front, get_back, got_map, get_map, only_place, same_or_not}
use Rattle.bench_text.proofs.Walks.{all_at}
use Rattle.bench_text.proofs.DraftLemmas.{at_name, signals-spelled, inputs-spelled, outputs-spelled, seen_role, defines-read, defines-input, defines-definition, role_at}

-- the place of a name among the signals
abbrev place : ℕ → Role → ℕ
place count role.Read = 0
place count (role.Input k) = k
place count (role.Definition k) = count + k

-- numbers that pass a test, with one more unless it is there
all_if : (p : ℕ → Bool) (b : Bool) (ys : List ℕ) (x : ℕ) → list_all p ys ≡ true → p x ≡ true → list_all p (if b then ys else ys ++ x ∷ []) ≡ true
all_if p true ys x h k = h
all_if p false ys x h k = all_append p ys (x ∷ []) h (rw k refl)

pub all_fold : (p : ℕ → Bool) (xs ys : List ℕ) → list_all p ys ≡ true → list_all p xs ≡ true → list_all p (fold with_number ys xs) ≡ true
all_fold p [] ys h k = h
all_fold p (x ∷ xs) ys h k = let q = both_true (p x) (list_all p xs) k in all_fold p xs (with_number ys x) (all_if p (list_any (nat_eq x) ys) ys x h q.0) q.1

entries-all : (p q : Numbered → Bool) → ((s : Numbered) → p s ≡ true → q s ≡ true) → (es : List Entry) → list_all (λ (e : Entry). p e.statement) es ≡ true → list_all (λ (e : Entry). q e.statement) es ≡ true
entries-all p q f [] h = refl
entries-all p q f (e ∷ es) h = let r = both_true (p e.statement) (list_all (λ (x : Entry). p x.statement) es) h in rw (f e.statement r.0, entries-all p q f es r.1) refl

output_seen : (names : List (List ℕ)) (s : Numbered) → are_below (length names) s ≡ true → list_all (λ n. nat_lt n (length names)) (output_number s) ≡ true
output_seen names (Input n) h = refl
output_seen names (Output n) h = h
output_seen names (Definition n kind pins) h = refl

output_read : (names signals : List (List ℕ)) (s : Numbered) → reads_from signals (spelling_of names s) ≡ true → list_all (λ n. list_any (bytes_eq (name_at names n)) signals) (output_number s) ≡ true
output_read names signals (Input n) h = refl
output_read names signals (Output n) h = h
output_read names signals (Definition n kind pins) h = refl

module _ (names : List (List ℕ)) (roles : List Role) (es : List Entry) (ins defs outs : List ℕ) (d : IsDraft names roles es ins defs outs) where
  abbrev pub signals : List (List ℕ)
  signals = signals_of (statements_of (map (spelling_of_entry names) es))

  pub signals-map : signals ≡ map (name_at names) (ins ++ defs)
  signals-map = signals-spelled names roles es ins defs outs d ∙ sym (map-append (name_at names) ins defs)

  -- each number among the signals has the role of its place
  role-there : (j n : ℕ) → slice_get (ins ++ defs) j ≡ Some n → (r : Role) × (slice_get roles n ≡ Some r) × (place (length ins) r ≡ j)
  role-there j n e = by (got_append ins defs j n e)
    where
      by : (slice_get ins j ≡ Some n) ⊎ ((i : ℕ) × (j ≡ length ins + i) × (slice_get defs i ≡ Some n)) → (r : Role) × (slice_get roles n ≡ Some r) × (place (length ins) r ≡ j)
      by (inl f) = (role.Input j, d.input j n f, refl)
      by (inr p) = (role.Definition p.0, d.definition p.0 n p.2, sym p.1)

  -- and the other way round
  there-role : (n : ℕ) (r : Role) → slice_get roles n ≡ Some r → r ≢ role.Read → slice_get (ins ++ defs) (place (length ins) r) ≡ Some n
  there-role n role.Read e h = absurd (h refl)
  there-role n (role.Input k) e h = get_front ins defs k n (d.as_input n k e)
  there-role n (role.Definition k) e h = get_back ins defs k n (d.as_definition n k e)

  same-number : (n m : ℕ) (r s : Role) → slice_get roles n ≡ Some r → slice_get roles m ≡ Some s → bytes_eq (name_at names n) (name_at names m) ≡ true → m ≡ n
  same-number n m r s e f t =
      d.distinct m n (name_at names m) (seen_role names roles es ins defs outs d m s f)
      (seen_role names roles es ins defs outs d n r e ∙ ap Some (same_name _ _ t))

  -- a signal's number is the place of its name
  pub id-place : (n : ℕ) (r : Role) → slice_get roles n ≡ Some r → r ≢ role.Read → id_of signals (name_at names n) ≡ place (length ins) r
  id-place n r e h =
      ap (position_or_len (bytes_eq (name_at names n))) signals-map
      ∙ only_place (bytes_eq (name_at names n)) (map (name_at names) (ins ++ defs)) (place (length ins) r) (name_at names n)
      (get_map (name_at names) (ins ++ defs) (place (length ins) r) n (there-role n r e h)) (name_same (name_at names n)) only
    where
      only : (j : ℕ) (z : List ℕ) → slice_get (map (name_at names) (ins ++ defs)) j ≡ Some z → bytes_eq (name_at names n) z ≡ true → j ≡ place (length ins) r
      only j z g t =
          let m = got_map (name_at names) (ins ++ defs) j z g in
          let s = role-there j m.0 m.1 in
          let same : m.0 ≡ n = same-number n m.0 r s.0 e s.1 (ap (bytes_eq (name_at names n)) m.2 ∙ t) in
          sym s.2 ∙ ap (place (length ins)) (some_same (slice_get roles n) s.0 r (ap (slice_get roles) (sym same) ∙ s.1) e)

  pub place-within : (n : ℕ) (r : Role) → slice_get roles n ≡ Some r → r ≢ role.Read → place (length ins) r < length signals
  place-within n r e h =
      let size : length signals ≡ length (ins ++ defs) = ap length signals-map ∙ length-map (ins ++ defs) (name_at names) in
      let k = slice_get_within (ins ++ defs) (place (length ins) r) n (there-role n r e h) in
      omega (arith, size, k)

  -- no signal stands twice
  pub signals-distinct : AreDistinct signals
  signals-distinct i j x e f =
      let a = got_map (name_at names) (ins ++ defs) i x (ap (λ l. slice_get l i) (sym signals-map) ∙ e) in
      let b = got_map (name_at names) (ins ++ defs) j x (ap (λ l. slice_get l j) (sym signals-map) ∙ f) in
      let r = role-there i a.0 a.1 in
      let s = role-there j b.0 b.1 in
      let one : name_at names b.0 ≡ name_at names a.0 = b.2 ∙ sym a.2 in
      let same : a.0 ≡ b.0 = same-number b.0 a.0 s.0 r.0 s.1 r.1 (ap (bytes_eq (name_at names b.0)) (sym one) ∙ name_same (name_at names b.0)) in
      sym r.2 ∙ ap (place (length ins)) (some_same (slice_get roles b.0) r.0 s.0 (ap (slice_get roles) (sym same) ∙ r.1) s.1) ∙ s.2

  -- in the code's words
  pub input-place : (n k : ℕ) (r : Role) → n < length names → r ≡ get_or roles n r → r ≡ role.Input k → (k ≡ id_of signals (name_at names n)) × (k < length signals)
  input-place n k r h e f =
      let at : slice_get roles n ≡ Some (role.Input k) = role_at names roles es ins defs outs d n r h e ∙ ap Some f in
      let unread : role.Input k ≢ role.Read = λ (g : role.Input k ≡ role.Read). cc in
      (sym (id-place n (role.Input k) at unread), place-within n (role.Input k) at unread)

  pub definition-place : (n k count : ℕ) (r : Role) → n < length names → r ≡ get_or roles n r → r ≡ role.Definition k → count ≡ length ins
      → (count + k ≡ id_of signals (name_at names n)) × (count + k < length signals)
  definition-place n k count r h e f g =
      let at : slice_get roles n ≡ Some (role.Definition k) = role_at names roles es ins defs outs d n r h e ∙ ap Some f in
      let unread : role.Definition k ≢ role.Read = λ (x : role.Definition k ≡ role.Read). cc in
      let within = place-within n (role.Definition k) at unread in
      (ap (λ c. c + k) g ∙ sym (id-place n (role.Definition k) at unread), omega (arith, g, within))

  pub not-read : (n : ℕ) (r : Role) → n < length names → r ≡ get_or roles n r → list_any (bytes_eq (name_at names n)) signals ≡ true → r ≡ role.Read → ⊥
  not-read n r h e t f = false≢true (sym (defines-read names roles es ins defs outs d n (role_at names roles es ins defs outs d n r h e ∙ ap Some f)) ∙ t)

  -- the numbers of inputs, of definitions and of outputs are those of names that are signals
  abbrev is_seen : ℕ → Bool
  is_seen n = nat_lt n (length names)

  abbrev is_signal : ℕ → Bool
  is_signal n = list_any (bytes_eq (name_at names n)) signals

  has-number : (n : ℕ) (r : Role) → slice_get roles n ≡ Some r → is_seen n ≡ true
  has-number n r e = let h : n < length names = (let k = slice_get_within roles n r e in omega (arith, k, d.paired)) in grind (arith, nat_tests)

  pub inputs-seen : list_all is_seen ins ≡ true
  inputs-seen = all-got is_seen ins (λ (k n : ℕ) (e : slice_get ins k ≡ Some n). has-number n (role.Input k) (d.input k n e))

  pub inputs-defined : list_all is_signal ins ≡ true
  inputs-defined = all-got is_signal ins (λ (k n : ℕ) (e : slice_get ins k ≡ Some n). defines-input names roles es ins defs outs d n k (d.input k n e))

  pub definitions-seen : list_all is_seen defs ≡ true
  definitions-seen = all-got is_seen defs (λ (k n : ℕ) (e : slice_get defs k ≡ Some n). has-number n (role.Definition k) (d.definition k n e))

  pub definitions-defined : list_all is_signal defs ≡ true
  definitions-defined = all-got is_signal defs (λ (k n : ℕ) (e : slice_get defs k ≡ Some n). defines-definition names roles es ins defs outs d n k (d.definition k n e))

  -- the definition on a line
  pub line-defined : (i : ℕ) (e : Entry) → i < length es → e ≡ get_or es i e → list_all is_signal (definition_number e.statement) ≡ true
  line-defined i e h f =
      let all : list_all (λ (x : Entry). list_all is_signal (definition_number x.statement)) es ≡ true =
      all-flat_map is_signal (λ (x : Entry). definition_number x.statement) es (ap (list_all is_signal) (sym d.definitions) ∙ definitions-defined) in
      ap (λ (x : Entry). list_all is_signal (definition_number x.statement)) f ∙ all_at (λ (x : Entry). list_all is_signal (definition_number x.statement)) es i e all h

  module _ (known : list_all (λ (s : Said). reads_from signals s.statement) (map (spelling_of_entry names) es) ≡ true) where
    lines-read : list_all (λ (x : Entry). reads_from signals (spelling_of names x.statement)) es ≡ true
    lines-read = sym (list_all-map (λ (s : Said). reads_from signals s.statement) (spelling_of_entry names) es) ∙ known

    pub line-read : (i : ℕ) (e : Entry) → i < length es → e ≡ get_or es i e → reads_from signals (spelling_of names e.statement) ≡ true
    line-read i e h f = ap (λ (x : Entry). reads_from signals (spelling_of names x.statement)) f ∙ all_at (λ (x : Entry). reads_from signals (spelling_of names x.statement)) es i e lines-read h

    outputs-all : (p : ℕ → Bool) → list_all (λ (x : Entry). list_all p (output_number x.statement)) es ≡ true → list_all p outs ≡ true
    outputs-all p h = ap (list_all p) d.outputs ∙ all_fold p (output_numbers es) [] refl (flat_map-all p (λ (x : Entry). output_number x.statement) es h)

    pub outputs-seen : list_all is_seen outs ≡ true
    outputs-seen = outputs-all is_seen (entries-all _ _ (λ s. output_seen names s) es d.below)

    pub outputs-defined : list_all is_signal outs ≡ true
    outputs-defined = outputs-all is_signal (entries-all _ _ (λ s. output_read names signals s) es lines-read)

-- a number of a list that passes
pub seen-at : (m : ℕ) (xs : List ℕ) (i d : ℕ) → list_all (λ n. nat_lt n m) xs ≡ true → i < length xs → get_or xs i d < m
seen-at m xs i d h k = let t : nat_lt (get_or xs i d) m ≡ true = all_at (λ n. nat_lt n m) xs i d h k in grind (arith, nat_tests)

-- numbers as signals, one more
pub mapped-more : {B : Type 0} (f : ℕ → B) (xs : List ℕ) (i d : ℕ) (n : B) (old new : List B) → i < length xs → old ≡ map f (take i xs) → n ≡ f (get_or xs i d) → new ≡ old ++ n ∷ [] → new ≡ map f (take (i + 1) xs)
mapped-more f xs i d n old new h e k l =
    l ∙ (λ j. e j ++ k j ∷ []) ∙ sym (map_push f (take i xs) (get_or xs i d)) ∙ ap (map f) (sym (take_more xs i d h))

-- behind others
pub mapped-behind : {B : Type 0} (f : ℕ → B) (xs : List ℕ) (i d : ℕ) (n : B) (first old new : List B) → i < length xs → old ≡ first ++ map f (take i xs) → n ≡ f (get_or xs i d) → new ≡ old ++ n ∷ [] → new ≡ first ++ map f (take (i + 1) xs)
mapped-behind f xs i d n first old new h e k l =
    l ∙ ap (λ o. o ++ n ∷ []) e ∙ append_assoc first (map f (take i xs)) (n ∷ [])
    ∙ ap (λ o. first ++ o) (mapped-more f xs i d n (map f (take i xs)) (map f (take i xs) ++ n ∷ []) h refl k refl)

pub flat-more : {B : Type 0} (f : Entry → List B) (xs : List Entry) (i : ℕ) (x : Entry) (found old new : List B) → i < length xs → x ≡ get_or xs i x → old ≡ flat_map f (take i xs) → found ≡ f x → new ≡ old ++ found → new ≡ flat_map f (take (i + 1) xs)
flat-more f xs i x found old new h g e k l =
    l ∙ (λ j. e j ++ (k ∙ ap f g) j) ∙ sym (flat_map-push f (take i xs) (get_or xs i x)) ∙ ap (flat_map f) (sym (take_more xs i x h))

-- the item that a loop took
pub item-of : {A : Type 0} (xs ys : List A) (i : ℕ) (x : A) → ys ≡ xs → x ≡ get_or ys i x → x ≡ get_or xs i x
item-of xs ys i x e f = f ∙ ap (λ l. get_or l i x) e

pub flat_map-map : {A B C : Type 0} (f : B → List C) (g : A → B) (xs : List A) → flat_map f (map g xs) ≡ flat_map (λ x. f (g x)) xs
flat_map-map f g [] = refl
flat_map-map f g (x ∷ xs) = ap (λ l. f (g x) ++ l) (flat_map-map f g xs)

-- outputs in the order of first lines, by number and by name
module _ (names : List (List ℕ)) (apart : AreDistinct names) where
  same-test : (n m : ℕ) → n < length names → m < length names → nat_eq n m ≡ bytes_eq (name_at names n) (name_at names m)
  same-test n m h k = by (same_or_not n m)
    where
      by : (n ≡ m) ⊎ (n ≢ m) → nat_eq n m ≡ bytes_eq (name_at names n) (name_at names m)
      by (inl e) = (let t : nat_eq n m ≡ true = grind (arith, nat_tests) in t) ∙ sym (ap (λ i. bytes_eq (name_at names n) (name_at names i)) (sym e) ∙ name_same (name_at names n))
      by (inr f) =
          (let t : nat_eq n m ≡ false = grind (arith, nat_tests) in t)
          ∙ sym (false_if _ (λ (t : bytes_eq (name_at names n) (name_at names m) ≡ true). f (apart n m (name_at names n) (at_name names n h) (at_name names m k ∙ ap Some (sym (same_name _ _ t))))))

  below : (n : ℕ) → nat_lt n (length names) ≡ true → n < length names
  below n h = grind (arith, nat_tests)

  any-number : (n : ℕ) (ms : List ℕ) → n < length names → list_all (λ m. nat_lt m (length names)) ms ≡ true → list_any (nat_eq n) ms ≡ list_any (bytes_eq (name_at names n)) (map (name_at names) ms)
  any-number n [] h k = refl
  any-number n (m ∷ ms) h k =
      let q = both_true (nat_lt m (length names)) (list_all (λ i. nat_lt i (length names)) ms) k in
      (λ i. same-test n m h (below m q.0) i || any-number n ms h q.1 i)

  map-if : (b : Bool) (ms : List ℕ) (n : ℕ) → map (name_at names) (if b then ms else ms ++ n ∷ []) ≡ (if b then map (name_at names) ms else map (name_at names) ms ++ name_at names n ∷ [])
  map-if true ms n = refl
  map-if false ms n = map-append (name_at names) ms (n ∷ [])

  pub fold-names : (ns ms : List ℕ) → list_all (λ n. nat_lt n (length names)) ms ≡ true → list_all (λ n. nat_lt n (length names)) ns ≡ true
      → map (name_at names) (fold with_number ms ns) ≡ fold with_name (map (name_at names) ms) (map (name_at names) ns)
  fold-names [] ms h k = refl
  fold-names (n ∷ ns) ms h k =
      let q = both_true (nat_lt n (length names)) (list_all (λ i. nat_lt i (length names)) ns) k in
      let step : map (name_at names) (with_number ms n) ≡ with_name (map (name_at names) ms) (name_at names n) =
      map-if (list_any (nat_eq n) ms) ms n
      ∙ ap (λ (b : Bool). if b then map (name_at names) ms else map (name_at names) ms ++ name_at names n ∷ []) (any-number n ms (below n q.0) h) in
      fold-names ns (with_number ms n) (all_if (λ i. nat_lt i (length names)) (list_any (nat_eq n) ms) ms n h q.0) q.1
      ∙ ap (λ l. fold with_name l (map (name_at names) ns)) step

mapped_twice : {A B C : Type 0} (g : B → C) (f : A → B) (xs : List A) → map g (map f xs) ≡ map (λ x. g (f x)) xs
mapped_twice g f [] = refl
mapped_twice g f (x ∷ xs) = ap (λ l. g (f x) ∷ l) (mapped_twice g f xs)

module _ (names : List (List ℕ)) (roles : List Role) (es : List Entry) (ins defs outs : List ℕ) (d : IsDraft names roles es ins defs outs) where
  abbrev ss : List Statement
  ss = statements_of (map (spelling_of_entry names) es)

  abbrev id : ℕ → ℕ
  id n = id_of (signals_of ss) (name_at names n)

  outputs-names : list_all (λ n. nat_lt n (length names)) (output_numbers es) ≡ true → map (name_at names) outs ≡ distinct (outputs_of ss)
  outputs-names h = ap (map (name_at names)) d.outputs ∙ fold-names names d.distinct (output_numbers es) [] refl h ∙ ap (fold with_name []) (sym (outputs-spelled names es))

  output-numbers-seen : list_all (λ n. nat_lt n (length names)) (output_numbers es) ≡ true
  output-numbers-seen = flat_map-all (λ n. nat_lt n (length names)) (λ (x : Entry). output_number x.statement) es (entries-all _ _ (λ s. output_seen names s) es d.below)

  pub put_in : map id ins ≡ map (id_of (signals_of ss)) (inputs_of ss)
  put_in = sym (mapped_twice (id_of (signals_of ss)) (name_at names) ins) ∙ ap (λ l. map (id_of (signals_of ss)) (map (name_at names) l)) d.inputs ∙ ap (map (id_of (signals_of ss))) (sym (inputs-spelled names es))

  pub put_out : map id outs ≡ map (id_of (signals_of ss)) (distinct (outputs_of ss))
  put_out = sym (mapped_twice (id_of (signals_of ss)) (name_at names) outs) ∙ ap (map (id_of (signals_of ss))) (outputs-names output-numbers-seen)

  pub table-of : (table first : List (List ℕ)) (ks ls : List ℕ) → ks ≡ ins → ls ≡ defs → first ≡ [] ++ map (name_at names) ks → table ≡ first ++ map (name_at names) ls → table ≡ signals_of ss
  table-of table first ks ls e f a b = b ∙ (λ i. (a ∙ ap (map (name_at names)) e) i ++ map (name_at names) (f i)) ∙ sym (signals-spelled names roles es ins defs outs d)

  pub equations-of : flat_map (λ (e : Entry). equation (signals_of ss) (spelling_of names e.statement)) es ≡ flat_map (equation (signals_of ss)) ss
  equations-of =
      sym (flat_map-map (λ (s : Said). equation (signals_of ss) s.statement) (spelling_of_entry names) es)
      ∙ sym (flat_map-map (equation (signals_of ss)) (λ (s : Said). s.statement) (map (spelling_of_entry names) es))

-- an equation, in the code's words
pub equation-pushed : (names signals : List (List ℕ)) (s : Numbered) (n i : ℕ) (kind : Kind) (pins : SmallVec ℕ) (items ids : List ℕ) (e : Equation) (old new : List Equation) → s ≡ Definition n kind pins
    → items ≡ pins.items → i ≡ id_of signals (name_at names n) → ids ≡ map (λ m. id_of signals (name_at names m)) items → e ≡ record { id = i; kind = kind; pins = ids } → new ≡ old ++ e ∷ []
    → new ≡ old ++ equation signals (spelling_of names s)
equation-pushed names signals s n i kind pins items ids e old new f g h k l m =
    let mapped : ids ≡ map (id_of signals) (map (name_at names) pins.items) =
    k ∙ ap (map (λ j. id_of signals (name_at names j))) g ∙ sym (mapped_twice (id_of signals) (name_at names) pins.items) in
    m ∙ ap (λ x. old ++ x ∷ []) l ∙ (λ j. old ++ record { id = h j; kind = kind; pins = mapped j } ∷ []) ∙ ap (λ t. old ++ equation signals (spelling_of names t)) (sym f)

-- the pins of a definition are signals where it reads signals
pub pins-defined : (names signals : List (List ℕ)) (s : Numbered) (n : ℕ) (kind : Kind) (pins : SmallVec ℕ) (items : List ℕ) → s ≡ Definition n kind pins → items ≡ pins.items → reads_from signals (spelling_of names s) ≡ true
    → list_all (λ m. list_any (bytes_eq (name_at names m)) signals) items ≡ true
pins-defined names signals s n kind pins items e f h =
    ap (list_all (λ m. list_any (bytes_eq (name_at names m)) signals)) f ∙ sym (list_all-map (λ x. list_any (bytes_eq x) signals) (name_at names) pins.items)
    ∙ ap (λ t. reads_from signals (spelling_of names t)) (sym e) ∙ h

pub walked : {A B : Type 0} (f : A → List B) (xs : List A) (i : ℕ) (ys : List B) → length xs ≤ i → ys ≡ flat_map f (take i xs) → ys ≡ flat_map f xs
walked f xs i ys h e = e ∙ ap (flat_map f) (take_all i xs h)
