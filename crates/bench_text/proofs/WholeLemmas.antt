-- What is wrong with a text as a whole.
use Rattle.std.proofs.Common.{◌≡◌, ◌<◌, ◌≤◌, ◌+◌, ℕ, Bool, true, false, not, cond, List, [], ◌∷◌, ◌++◌, length, get_or, drop, refl, sym, ap, ◌∙◌, map, arith, length-append, ⊎_elim}
use Rattle.std.specs.Prelude.{Option, Some, None, nat_lt, nat_eq, find, fold, option_map, ◌==◌, if◌then◌else◌}
use Rattle.std.specs.List.{list_any, list_all}
use Rattle.std.specs.Str.{bytes_eq}
use Rattle.std.proofs.lemmas.Bool.Decides.{nat_tests}
use Rattle.std.proofs.lemmas.List.{length-map}
use Rattle.bench_text.specs.declared.refusal.Names.{Names}
use Rattle.bench_text.specs.declared.refusal.Names.TheVariants.{Design, Scanned}
use Rattle.bench_text.specs.declared.refusal.BenchKind.TheVariants.{TooMany, NoInput, NoOutput, Undefined}
use Rattle.bench_text.specs.declared.numbered.Role.{Role}
use Rattle.bench_text.specs.declared.numbered.Entry.{Entry}
use Rattle.bench_text.specs.declared.numbered.Numbered.{Numbered}
use Rattle.bench_text.specs.declared.numbered.Numbered.TheVariants.{Definition}
use Rattle.statement.specs.declared.kinds.Kind.{Kind}
use Rattle.smallvec.specs.SmallVec.{SmallVec}
use Rattle.bench_text.specs.Said.{Said, statements_of}
use Rattle.bench_text.specs.Texts.{inputs_of, signals_of}
use Rattle.statement.specs.Benches.{name_at}
use Rattle.bench_text.specs.inner.Numbered.{spelling_of, spelling_of_entry, input_numbers, output_numbers, with_number, IsDraft}
use Rattle.bench_text.specs.Whole.{outputs_of, reads_from, most_in_text, refusal_at, whole_refusal}
use Rattle.bench_text.proofs.Lists.{list_all-map}
use Rattle.bench_text.proofs.Runs.{either}
use Rattle.bench_text.proofs.Walks.{find-map, find-here, find-ends}
use Rattle.bench_text.proofs.DraftLemmas.{signals-spelled, inputs-spelled, outputs-spelled}

pub lt_true : (m n : ℕ) → m < n → nat_lt m n ≡ true
lt_true m n h = grind (arith, nat_tests)

pub lt_false : (m n : ℕ) → n ≤ m → nat_lt m n ≡ false
lt_false m n h = grind (arith, nat_tests)

zero_true : (n : ℕ) → n ≡ 0 → (n == 0) ≡ true
zero_true n h = grind (arith, nat_tests)

zero_false : (n : ℕ) → 0 < n → (n == 0) ≡ false
zero_false n h = grind (arith, nat_tests)

stays : (b : Bool) (ys : List ℕ) (x : ℕ) → length ys ≤ length (if b then ys else ys ++ x ∷ [])
stays true ys x = omega arith
stays false ys x = omega (arith, length-append ys (x ∷ []))

-- numbers stay, as further ones are put to them
fold-length : (xs ys : List ℕ) → length ys ≤ length (fold with_number ys xs)
fold-length [] ys = omega arith
fold-length (x ∷ xs) ys = omega (arith, stays (list_any (nat_eq x) ys) ys x, fold-length xs (with_number ys x))

-- where there is a number, there is a first one
distinct-none : (xs : List ℕ) → length (fold with_number [] xs) ≡ 0 → length xs ≡ 0
distinct-none [] h = refl
distinct-none (x ∷ xs) h = absurd (omega (arith, fold-length xs (x ∷ [])))

distinct-some : (xs : List ℕ) → 0 < length (fold with_number [] xs) → 0 < length xs
distinct-some [] h = h
distinct-some (x ∷ xs) h = omega arith

module _ (names : List (List ℕ)) (roles : List Role) (es : List Entry) (ins defs outs : List ℕ) (d : IsDraft names roles es ins defs outs) where
  abbrev all : List Said
  all = map (spelling_of_entry names) es

  pub signal_count : (a b : ℕ) → a ≡ length ins → b ≡ length defs → a + b ≡ length (signals_of (statements_of all))
  signal_count a b e f =
      omega (arith, e, f, ap length (signals-spelled names roles es ins defs outs d), length-append (map (name_at names) ins) (map (name_at names) defs), length-map ins (name_at names), length-map defs (name_at names))

  input_count : length (inputs_of (statements_of all)) ≡ length ins
  input_count = omega (arith, ap length (inputs-spelled names es), length-map (input_numbers es) (name_at names), ap length d.inputs)

  output_count : length (outputs_of (statements_of all)) ≡ length (output_numbers es)
  output_count = omega (arith, ap length (outputs-spelled names es), length-map (output_numbers es) (name_at names))

  module _ (reading : Names) where
    pub whole-too_many : (n : ℕ) → n ≡ length (signals_of (statements_of all)) → most_in_text reading < n → whole_refusal reading all ≡ Some (refusal_at 0 TooMany)
    unfolding whole_refusal
    whole-too_many n e h = rw (lt_true (most_in_text reading) (length (signals_of (statements_of all))) (omega (arith, e, h))) refl

    module _ (n : ℕ) (e : n ≡ length (signals_of (statements_of all))) (few : n ≤ most_in_text reading) where
      small : nat_lt (most_in_text reading) (length (signals_of (statements_of all))) ≡ false
      small = lt_false (most_in_text reading) (length (signals_of (statements_of all))) (omega (arith, e, few))

      pub whole-no_input : length ins ≡ 0 → whole_refusal reading all ≡ Some (refusal_at 0 NoInput)
      unfolding whole_refusal
      whole-no_input h = rw (small, zero_true (length (inputs_of (statements_of all))) (input_count ∙ h)) refl

      module _ (some : 0 < length ins) where
        has_input : (length (inputs_of (statements_of all)) == 0) ≡ false
        has_input = zero_false (length (inputs_of (statements_of all))) (omega (arith, input_count, some))

        pub whole-no_output : length outs ≡ 0 → whole_refusal reading all ≡ Some (refusal_at 0 NoOutput)
        unfolding whole_refusal
        whole-no_output h = rw (small, has_input, zero_true (length (outputs_of (statements_of all))) (output_count ∙ distinct-none (output_numbers es) (sym (ap length d.outputs) ∙ h))) refl

        pub whole-undefined : 0 < length outs → (o : Option ℕ) → o ≡ option_map (λ (s : Said). s.line) (find (λ (s : Said). not (reads_from (signals_of (statements_of all)) s.statement)) all)
            → whole_refusal reading all ≡ option_map (λ k. refusal_at k Undefined) o
        unfolding whole_refusal
        whole-undefined h o g =
            let has_output = zero_false (length (outputs_of (statements_of all))) (let m = distinct-some (output_numbers es) (omega (arith, ap length d.outputs, h)) in omega (arith, output_count, m)) in
            rw (small, has_input, has_output) (again (find (λ (s : Said). not (reads_from (signals_of (statements_of all)) s.statement)) all) ∙ ap (option_map (λ k. refusal_at k Undefined)) (sym g))
          where
            again : (p : Option Said) → option_map (λ (s : Said). refusal_at s.line Undefined) p ≡ option_map (λ k. refusal_at k Undefined) (option_map (λ (s : Said). s.line) p)
            again None = refl
            again (Some s) = refl

-- a definition's pins, in the code's words
pub reads-definition : (names signals : List (List ℕ)) (s : Numbered) (n : ℕ) (kind : Kind) (pins : SmallVec ℕ) (items : List ℕ) (r : Bool) → s ≡ Definition n kind pins
    → r ≡ list_all (λ m. list_any (bytes_eq (name_at names m)) signals) items → items ≡ pins.items → r ≡ reads_from signals (spelling_of names s)
reads-definition names signals s n kind pins items r e f g =
    f ∙ ap (list_all (λ m. list_any (bytes_eq (name_at names m)) signals)) g ∙ sym (list_all-map (λ x. list_any (bytes_eq x) signals) (name_at names) pins.items)
    ∙ ap (λ t. reads_from signals (spelling_of names t)) (sym e)

module _ (names signals : List (List ℕ)) (es : List Entry) where
  abbrev reads_unknown : Entry → Bool
  reads_unknown e = not (reads_from signals (spelling_of names e.statement))

  abbrev first_line : Option ℕ
  first_line = option_map (λ (s : Said). s.line) (find (λ (s : Said). not (reads_from signals s.statement)) (map (spelling_of_entry names) es))

  to_line : first_line ≡ option_map (λ (e : Entry). e.line) (find reads_unknown es)
  to_line = ap (option_map (λ (s : Said). s.line)) (find-map (λ (s : Said). not (reads_from signals s.statement)) (spelling_of_entry names) es) ∙ again (find reads_unknown es)
    where
      again : (o : Option Entry) → option_map (λ (s : Said). s.line) (option_map (spelling_of_entry names) o) ≡ option_map (λ (e : Entry). e.line) o
      again None = refl
      again (Some e) = refl

  pub undefined-here : (ys : List Entry) (i : ℕ) (d : Entry) → ys ≡ es → i < length es → d ≡ get_or ys i d → find reads_unknown (drop i es) ≡ find reads_unknown es
      → reads_from signals (spelling_of names d.statement) ≡ false → Some d.line ≡ first_line
  undefined-here ys i d e h f g t =
      let at : d ≡ get_or es i d = f ∙ ap (λ l. get_or l i d) e in
      let unknown : reads_unknown (get_or es i d) ≡ true = ap reads_unknown (sym at) ∙ (rw t refl) in
      ap (λ (x : Entry). Some x.line) at ∙ ap (option_map (λ (x : Entry). x.line)) (find-here reads_unknown es i d h (find reads_unknown es) g unknown) ∙ sym to_line

  pub undefined-none : (i : ℕ) → length es ≤ i → find reads_unknown (drop i es) ≡ find reads_unknown es → None ≡ first_line
  undefined-none i h g = ap (option_map (λ (x : Entry). x.line)) (find-ends reads_unknown es i (find reads_unknown es) h g) ∙ sym to_line

-- where nothing is wrong with the whole text
four : {A : Type 0} (a b c : Bool) (x y z : A) (f : Said → A) (o : Option Said) → cond a (Some x) (cond b (Some y) (cond c (Some z) (option_map f o))) ≡ None → (a ≡ false) × (b ≡ false) × (c ≡ false) × (o ≡ None)
four true b c x y z f o h = cc
four false true c x y z f o h = cc
four false false true x y z f o h = cc
four false false false x y z f None h = (refl, refl, refl, refl)
four false false false x y z f (Some n) h = cc

find-none : (p : Said → Bool) (xs : List Said) → find (λ s. not (p s)) xs ≡ None → list_all p xs ≡ true
find-none p [] h = refl
find-none p (x ∷ xs) h = ⊎_elim
    (λ (t : p x ≡ true). rw (t, find-none p xs (ap (λ b. cond (not b) (Some x) (find (λ s. not (p s)) xs)) (sym t) ∙ h)) refl)
    (λ (f : p x ≡ false). let e : Some x ≡ None = ap (λ b. cond (not b) (Some x) (find (λ s. not (p s)) xs)) (sym f) ∙ h in cc)
    (either (p x))

few_signals : (m n : ℕ) → nat_lt m n ≡ false → n ≤ m
few_signals m n h = grind (arith, nat_tests)

positive : (n : ℕ) → (n == 0) ≡ false → 0 < n
positive n h = grind (arith, nat_tests)

pub whole-none : (reading : Names) (all : List Said) → whole_refusal reading all ≡ None
    → (length (signals_of (statements_of all)) ≤ most_in_text reading) × (0 < length (inputs_of (statements_of all))) × (0 < length (outputs_of (statements_of all)))
    × (list_all (λ (s : Said). reads_from (signals_of (statements_of all)) s.statement) all ≡ true)
unfolding whole_refusal
whole-none reading all h =
    let p = four (nat_lt (most_in_text reading) (length (signals_of (statements_of all)))) (length (inputs_of (statements_of all)) == 0) (length (outputs_of (statements_of all)) == 0)
    (refusal_at 0 TooMany) (refusal_at 0 NoInput) (refusal_at 0 NoOutput) (λ (s : Said). refusal_at s.line Undefined) (find (λ (s : Said). not (reads_from (signals_of (statements_of all)) s.statement)) all) h in
    (few_signals _ _ p.0, positive _ p.1, positive _ p.2, find-none (λ (s : Said). reads_from (signals_of (statements_of all)) s.statement) all p.3)

pub most-most : (reading : Names) → most_in_text reading ≤ 8000000
most-most Design = omega arith
most-most Scanned = omega arith
