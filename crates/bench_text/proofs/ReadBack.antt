-- Lines that are read as statements, one by one, are read so as a text.
use Rattle.std.proofs.Common.{◌≡◌, ◌<◌, ◌≤◌, ◌+◌, ℕ, suc, Bool, true, false, not, List, [], ◌∷◌, ◌++◌, length, refl, sym, ap, ◌∙◌, map, subst, append_assoc, arith}
use Rattle.std.specs.Prelude.{Some, None, slice_get, find, ◌==◌, ◌||◌, IsTrue, option_map}
use Rattle.std.specs.List.{list_all, list_any, flat_map, All, AllByRecursion}
use Rattle.std.specs.Str.{bytes_eq}
use Rattle.std.proofs.lemmas.List.{map-append}
use Rattle.std.proofs.lemmas.Option.{slice_get_within}
use Rattle.std.proofs.lemmas.Bool.Decides.{nat_tests}
use Rattle.statement.specs.Netlists.{is_name_byte, IsName}
use Rattle.bench_text.specs.declared.refusal.Names.{Names}
use Rattle.bench_text.specs.declared.refusal.BenchKind.TheVariants.{Undefined}
use Rattle.bench_text.specs.Tokens.{is_word_byte}
use Rattle.bench_text.specs.Forms.{Statement, Nothing, Input, Output, Definition}
use Rattle.bench_text.specs.Refusals.{says, has_reserved_name, defines_one_of}
use Rattle.bench_text.specs.inner.OneLine.{own_refusal}
use Rattle.bench_text.specs.Said.{Said, note_at, notes_from, statements_of}
use Rattle.bench_text.specs.Texts.{statement_on, input, defined, inputs_of, definitions_of, signals_of, first_refusal}
use Rattle.bench_text.specs.inner.NewNames.{AreDistinct}
use Rattle.bench_text.specs.Whole.{outputs_of, reads_from, most_in_text, refusal_at, whole_refusal}
use Rattle.bench_text.proofs.Plain.{is_plain, IsRun}
use Rattle.bench_text.proofs.Lists.{both_true, list_any-append, flat_map-push, get_front, get_back, false_if}
use Rattle.bench_text.proofs.RefusalLemmas.{refusal-none, said-says}
use Rattle.bench_text.proofs.LinesReadLemmas.{first_refusal-fine, first_refusal-none}
use Rattle.bench_text.proofs.WholeLemmas.{lt_false}
use Rattle.bench_text.proofs.FormedLemmas.{any-got}

-- lists, element by element
pub all-index : {A : Type 0} (P : A → Type 0) (xs : List A) → All P xs → AllByRecursion P xs
all-index P [] h = tt
all-index P (x ∷ xs) h = (h 0 x (omega arith), all-index P xs (λ k d b. h (suc k) d (omega arith)))

pub all-true : {A : Type 0} (p : A → Bool) (xs : List A) → AllByRecursion (λ x. p x ≡ true) xs → list_all p xs ≡ true
all-true p [] h = refl
all-true p (x ∷ xs) h = rw (h.0, all-true p xs h.1) refl

pub all-so : {A : Type 0} (P Q : A → Type 0) → ((x : A) → P x → Q x) → (xs : List A) → AllByRecursion P xs → AllByRecursion Q xs
all-so P Q f [] h = tt
all-so P Q f (x ∷ xs) h = (f x h.0, all-so P Q f xs h.1)

pub all-mapped : {A B : Type 0} (P : B → Type 0) (f : A → B) (xs : List A) → AllByRecursion (λ x. P (f x)) xs → AllByRecursion P (map f xs)
all-mapped P f [] h = tt
all-mapped P f (x ∷ xs) h = (h.0, all-mapped P f xs h.1)

pub map-same : {A : Type 0} (f : A → A) (xs : List A) → AllByRecursion (λ x. f x ≡ x) xs → map f xs ≡ xs
map-same f [] h = refl
map-same f (x ∷ xs) h = (λ i. h.0 i ∷ map-same f xs h.1 i)

pub map-twice : {A B C : Type 0} (g : B → C) (f : A → B) (xs : List A) → map g (map f xs) ≡ map (λ x. g (f x)) xs
map-twice g f [] = refl
map-twice g f (x ∷ xs) = ap (λ l. g (f x) ∷ l) (map-twice g f xs)

pub flat-one : {A B C : Type 0} (g : B → List C) (c : A → B) (h : A → C) (xs : List A) → ((x : A) → g (c x) ≡ h x ∷ []) → flat_map g (map c xs) ≡ map h xs
flat-one g c h [] e = refl
flat-one g c h (x ∷ xs) e = (λ i. e x i ++ flat-one g c h xs e i)

pub flat-none : {A B C : Type 0} (g : B → List C) (c : A → B) (xs : List A) → ((x : A) → g (c x) ≡ []) → flat_map g (map c xs) ≡ []
flat-none g c [] e = refl
flat-none g c (x ∷ xs) e = (λ i. e x i ++ flat-none g c xs e i)

pub same-list : {A : Type 0} (xs ys : List A) → length xs ≡ length ys → ((k : ℕ) (y : A) → slice_get xs k ≡ Some y → slice_get ys k ≡ Some y) → xs ≡ ys
same-list [] [] e h = refl
same-list [] (y ∷ ys) e h = absurd (omega arith)
same-list (x ∷ xs) [] e h = absurd (omega arith)
same-list (x ∷ xs) (y ∷ ys) e h =
    let s : Some y ≡ Some x = h 0 x refl in
    let t : x ≡ y = cc in
    let n : length xs ≡ length ys = omega arith in
    (λ i. t i ∷ same-list xs ys n (λ k z f. h (suc k) z f) i)

-- two lists, pairwise
abbrev pub Each : {A B : Type 0} (R : A → B → Type 0) → List A → List B → Type 0
Each R [] [] = Unit {0}
Each R [] (b ∷ bs) = ⊥
Each R (a ∷ xs) [] = ⊥
Each R (a ∷ xs) (b ∷ bs) = R a b × Each R xs bs

pub each-mapped : {A B C : Type 0} (R : A → B → Type 0) (f : C → A) (g : C → B) (xs : List C) → AllByRecursion (λ x. R (f x) (g x)) xs → Each R (map f xs) (map g xs)
each-mapped R f g [] h = tt
each-mapped R f g (x ∷ xs) h = (h.0, each-mapped R f g xs h.1)

pub each-append : {A B : Type 0} (R : A → B → Type 0) (xs : List A) (ys : List B) (zs : List A) (ws : List B) → Each R xs ys → Each R zs ws → Each R (xs ++ zs) (ys ++ ws)
each-append R [] [] zs ws h k = k
each-append R [] (y ∷ ys) zs ws h k = absurd h
each-append R (x ∷ xs) [] zs ws h k = absurd h
each-append R (x ∷ xs) (y ∷ ys) zs ws h k = (h.0, each-append R xs ys zs ws h.1 k)

-- a line that is read as a statement, whatever stands before it but for its own name
pub record ReadsAs (reading : Names) (line : List ℕ) (s : Statement) : Type 0 where
  pub plain : list_all is_plain line ≡ true
  pub says : says reading line ≡ Some s
  pub own : own_refusal reading line ≡ None
  pub free : has_reserved_name reading s ≡ false
  pub something : (n : ℕ) → note_at n s ≡ record { line = n; statement = s } ∷ []

pub all-plain : (reading : Names) (ls : List (List ℕ)) (ss : List Statement) → Each (ReadsAs reading) ls ss → AllByRecursion (λ l. list_all is_plain l ≡ true) ls
all-plain reading [] [] h = tt
all-plain reading [] (s ∷ ss) h = absurd h
all-plain reading (l ∷ ls) [] h = absurd h
all-plain reading (l ∷ ls) (s ∷ ss) h = (h.0.plain, all-plain reading ls ss h.1)

pub all-said : (reading : Names) (ls : List (List ℕ)) (ss : List Statement) → Each (ReadsAs reading) ls ss → map (statement_on reading) ls ≡ ss
all-said reading [] [] h = refl
all-said reading [] (s ∷ ss) h = absurd h
all-said reading (l ∷ ls) [] h = absurd h
all-said reading (l ∷ ls) (s ∷ ss) h = (λ i. said-says reading [] l s h.0.says i ∷ all-said reading ls ss h.1 i)

pub all-noted : (reading : Names) (n : ℕ) (ls : List (List ℕ)) (ss : List Statement) → Each (ReadsAs reading) ls ss → statements_of (notes_from n ss) ≡ ss
all-noted reading n [] [] h = refl
all-noted reading n [] (s ∷ ss) h = absurd h
all-noted reading n (l ∷ ls) [] h = absurd h
all-noted reading n (l ∷ ls) (s ∷ ss) h =
    map-append (λ (x : Said). x.statement) (note_at n s) (notes_from (n + 1) ss)
    ∙ (λ i. statements_of (h.0.something n i) ++ all-noted reading (n + 1) ls ss h.1 i)

-- no statement defines a name that an earlier one defines
abbrev pub AllFresh : List Statement → List Statement → Type 0
AllFresh earlier [] = Unit {0}
AllFresh earlier (s ∷ ss) = (defines_one_of (signals_of earlier) s ≡ false) × AllFresh (earlier ++ s ∷ []) ss

pub no-refusal : (reading : Names) (earlier : List Statement) (ls : List (List ℕ)) (ss : List Statement) → Each (ReadsAs reading) ls ss → AllFresh earlier ss → first_refusal reading earlier ls ≡ None
no-refusal reading earlier [] [] h k = first_refusal-none reading earlier
no-refusal reading earlier [] (s ∷ ss) h k = absurd h
no-refusal reading earlier (l ∷ ls) [] h k = absurd h
no-refusal reading earlier (l ∷ ls) (s ∷ ss) h k =
    first_refusal-fine reading earlier l ls (refusal-none reading (signals_of earlier) l s h.0.own h.0.says k.0 h.0.free)
    ∙ ap (λ x. first_refusal reading (earlier ++ x ∷ []) ls) (said-says reading [] l s h.0.says)
    ∙ no-refusal reading (earlier ++ s ∷ []) ls ss h.1 k.1

-- names in the order in which they are defined
abbrev pub defines : Statement → List (List ℕ)
defines s = input s ++ defined s

abbrev pub order : List Statement → List (List ℕ)
order ss = flat_map defines ss

pub shuffle : (a b c d : Bool) → ((a || b) || (c || d)) ≡ ((a || c) || (b || d))
shuffle true b c d = refl
shuffle false true true d = refl
shuffle false true false d = refl
shuffle false false true d = refl
shuffle false false false d = refl

pub any-order : (p : List ℕ → Bool) (ss : List Statement) → list_any p (signals_of ss) ≡ list_any p (order ss)
any-order p [] = refl
any-order p (s ∷ ss) =
    list_any-append p (input s ++ inputs_of ss) (defined s ++ definitions_of ss)
    ∙ (λ i. list_any-append p (input s) (inputs_of ss) i || list_any-append p (defined s) (definitions_of ss) i)
    ∙ shuffle (list_any p (input s)) (list_any p (inputs_of ss)) (list_any p (defined s)) (list_any p (definitions_of ss))
    ∙ (λ i. sym (list_any-append p (input s) (defined s)) i || (sym (list_any-append p (inputs_of ss) (definitions_of ss)) ∙ any-order p ss) i)
    ∙ sym (list_any-append p (defines s) (order ss))

pub name-fresh : (earlier : List Statement) (x : List ℕ) (rest : List (List ℕ)) → AreDistinct (order earlier ++ x ∷ rest) → list_any (bytes_eq x) (signals_of earlier) ≡ false
name-fresh earlier x rest apart = false_if _ (λ (t : list_any (bytes_eq x) (signals_of earlier) ≡ true).
    let p = any-got x (order earlier) (sym (any-order (bytes_eq x) earlier) ∙ t) in
    let w = slice_get_within (order earlier) p.0 x p.1 in
    let last : slice_get (order earlier ++ x ∷ rest) (length (order earlier) + 0) ≡ Some x = get_back (order earlier) (x ∷ rest) 0 x refl in
    let same : p.0 ≡ length (order earlier) + 0 = apart p.0 (length (order earlier) + 0) x (get_front (order earlier) (x ∷ rest) p.0 x p.1) last in
    omega arith)

pub one-more : (earlier : List Statement) (s : Statement) (ss : List Statement) → order (earlier ++ s ∷ []) ++ order ss ≡ order earlier ++ order (s ∷ ss)
one-more earlier s ss = ap (λ l. l ++ order ss) (flat_map-push defines earlier s) ∙ append_assoc (order earlier) (defines s) (order ss)

pub all-fresh : (earlier ss : List Statement) → AreDistinct (order earlier ++ order ss) → AllFresh earlier ss
all-fresh earlier [] apart = tt
all-fresh earlier (Nothing ∷ ss) apart = (refl, all-fresh (earlier ++ Nothing ∷ []) ss (subst AreDistinct (sym (one-more earlier Nothing ss)) apart))
all-fresh earlier (Output x ∷ ss) apart = (refl, all-fresh (earlier ++ Output x ∷ []) ss (subst AreDistinct (sym (one-more earlier (Output x) ss)) apart))
all-fresh earlier (Input x ∷ ss) apart = (name-fresh earlier x (order ss) apart, all-fresh (earlier ++ Input x ∷ []) ss (subst AreDistinct (sym (one-more earlier (Input x) ss)) apart))
all-fresh earlier (Definition z gate pins ∷ ss) apart = (name-fresh earlier z (order ss) apart, all-fresh (earlier ++ Definition z gate pins ∷ []) ss (subst AreDistinct (sym (one-more earlier (Definition z gate pins) ss)) apart))

-- the bytes of names make words
pub name-word : (b : ℕ) → is_name_byte b ≡ true → is_word_byte b ≡ true
name-word b h = grind (arith, nat_tests)

pub name-plain : (b : ℕ) → is_name_byte b ≡ true → is_plain b ≡ true
name-plain b h = grind (arith, nat_tests)

pub name-run : (x : List ℕ) → IsName x → IsRun x
name-run x h =
    let bytes = all-index (λ b. IsTrue (is_name_byte b)) x h.bytes in
    record {
      some = h.some;
      word = all-true is_word_byte x (all-so (λ b. IsTrue (is_name_byte b)) (λ b. is_word_byte b ≡ true) name-word x bytes);
      plain = all-true is_plain x (all-so (λ b. IsTrue (is_name_byte b)) (λ b. is_plain b ≡ true) name-plain x bytes);
    }

-- what is wrong with the whole text: nothing
pub all-found : (p : Said → Bool) (xs : List Said) → list_all p xs ≡ true → find (λ s. not (p s)) xs ≡ None
all-found p [] h = refl
all-found p (x ∷ xs) h = let q = both_true (p x) (list_all p xs) h in rw (q.0, all-found p xs q.1) refl

pub zero_false : (n : ℕ) → 0 < n → (n == 0) ≡ false
zero_false n h = grind (arith, nat_tests)

pub whole-fine : (reading : Names) (all : List Said) → length (signals_of (statements_of all)) ≤ most_in_text reading → 0 < length (inputs_of (statements_of all)) → 0 < length (outputs_of (statements_of all))
    → list_all (λ (s : Said). reads_from (signals_of (statements_of all)) s.statement) all ≡ true → whole_refusal reading all ≡ None
unfolding whole_refusal
whole-fine reading all a b c e =
    rw (lt_false (most_in_text reading) (length (signals_of (statements_of all))) a, zero_false (length (inputs_of (statements_of all))) b, zero_false (length (outputs_of (statements_of all))) c)
    (ap (option_map (λ (s : Said). refusal_at s.line Undefined)) (all-found (λ (s : Said). reads_from (signals_of (statements_of all)) s.statement) all e))
