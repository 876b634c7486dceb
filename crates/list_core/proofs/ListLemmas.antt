-- Lists, tests and marks.
use Rattle.std.proofs.Common.{zero, suc, ◌≡◌, ◌≢◌, ◌⊎◌, inl, inr, ℕ, ◌+◌, ◌<◌, ◌≤◌, Bool, true, false, ◌&&◌, ◌||◌, ◌==◌, not, List, [], ◌∷◌, ◌++◌, length, set, get_or, refl, sym, ap, ◌∙◌, subst, arith, sum_by}
use Rattle.std.specs.Prelude.{Some, if◌then◌else◌}
use Rattle.std.specs.List.{slice_get}
use Rattle.std.proofs.lemmas.Bool.Decides.{nat_tests}
use Rattle.std.proofs.lemmas.List.{get_or-set_same, get_or-set_other}
use Rattle.std.proofs.lemmas.List.Sums.{sum_by-set}
use Rattle.list_core.specs.declared.verdicts.Entry.{Entry}
use Rattle.list_core.specs.declared.verdicts.Entry.TheVariants.{Take}
use Rattle.list_core.specs.Journal.{is_taken, takes_class}
use Rattle.list_core.specs.States.{one_if_free, mark_at}

pub if_true : {A : Type 0} (b : Bool) (x y : A) → b ≡ true → (if b then x else y) ≡ x
if_true true x y e = refl
if_true false x y e = cc

pub both : (a b : Bool) → a ≡ true → b ≡ true → (a && b) ≡ true
both a b p q = ap (λ x. x && b) p ∙ q

pub both_of : (a b : Bool) → (a && not b) ≡ true → (a ≡ true) × (b ≡ false)
both_of true true e = cc
both_of true false e = (refl, refl)
both_of false b e = cc

pub same_or : (a b : ℕ) → (a ≡ b) ⊎ (a ≢ b)
same_or a b = grind arith

-- an element of a list, with more behind it
pub get_more : {A : Type 0} (xs ys : List A) (k : ℕ) (x : A) → slice_get xs k ≡ Some x → slice_get (xs ++ ys) k ≡ Some x
get_more [] ys k x e = cc
get_more (z ∷ xs) ys zero x e = e
get_more (z ∷ xs) ys (suc k) x e = get_more xs ys k x e

none_more : (k : ℕ) → 0 + k ≡ k
none_more k = omega arith

one_more : (n k : ℕ) → suc n + k ≡ suc (n + k)
one_more n k = omega arith

pub get_behind : {A : Type 0} (xs ys : List A) (k : ℕ) → slice_get (xs ++ ys) (length xs + k) ≡ slice_get ys k
get_behind [] ys k = ap (slice_get ys) (none_more k)
get_behind (x ∷ xs) ys k = ap (slice_get (x ∷ (xs ++ ys))) (one_more (length xs) k) ∙ get_behind xs ys k

pub is_taken-append : (es fs : List Entry) (class : ℕ) → is_taken (es ++ fs) class ≡ (is_taken fs class || is_taken es class)
is_taken-append [] fs class = or_nothing (is_taken fs class)
  where
    or_nothing : (a : Bool) → a ≡ (a || false)
    or_nothing true = refl
    or_nothing false = refl
is_taken-append (e ∷ es) fs class =
    ap (λ (b : Bool). b || takes_class class e) (is_taken-append es fs class) ∙ or_or (is_taken fs class) (is_taken es class) (takes_class class e)
  where
    or_or : (a b c : Bool) → ((a || b) || c) ≡ (a || (b || c))
    or_or true b c = refl
    or_or false b c = refl

pub untaken-push : (es : List Entry) (e : Entry) (class : ℕ) → takes_class class e ≡ false → is_taken (es ++ e ∷ []) class ≡ is_taken es class
untaken-push es e class none = is_taken-append es (e ∷ []) class ∙ ap (λ (b : Bool). (false || b) || is_taken es class) none

same_class : (c : ℕ) → (c == c) ≡ true
same_class c = grind (arith, nat_tests)

other_class : (c d : ℕ) → c ≢ d → (d == c) ≡ false
other_class c d ne = grind (arith, nat_tests)

-- the marks after a Take
pub marked-take : (taken : List Bool) (es : List Entry) (worker class c : ℕ) → class < length taken → mark_at taken c ≡ is_taken es c → mark_at (set taken class true) c ≡ is_taken (es ++ Take worker class ∷ []) c
marked-take taken es worker class c lt is =
    elim (same_or c class) [
      | inl e ↦ (
          let P : ℕ → Type 0 = λ n. mark_at (set taken class true) n ≡ is_taken (es ++ Take worker class ∷ []) n in
          subst P (sym e) (get_or-set_same taken class true false lt ∙ sym (is_taken-append es (Take worker class ∷ []) class ∙ ap (λ (b : Bool). (false || b) || is_taken es class) (same_class class)))
          )
      | inr ne ↦ (get_or-set_other taken class c true false ne ∙ (is ∙ sym (untaken-push es (Take worker class) c (other_class c class ne))))
    ]

one_at_most : (b : Bool) → one_if_free b ≤ 1
one_at_most true = omega arith
one_at_most false = omega arith

-- a mark more
pub frees-less : (taken : List Bool) (class : ℕ) → class < length taken → sum_by one_if_free (set taken class true) ≤ sum_by one_if_free taken
frees-less taken class lt = omega (arith, sum_by-set one_if_free taken class true false lt)

pub frees-one_less : (taken : List Bool) (class : ℕ) → class < length taken → mark_at taken class ≡ false → sum_by one_if_free (set taken class true) + 1 ≡ sum_by one_if_free taken
frees-one_less taken class lt is =
    let one : one_if_free (get_or taken class false) ≡ 1 = ap one_if_free is in
    omega (arith, sum_by-set one_if_free taken class true false lt, one)
