-- Inputs held one after the other, where the unknown ones are held at 0.
use Rattle.std.proofs.Common.{◌≡◌, ◌<◌, ◌≤◌, ℕ, zero, suc, ◌+◌, inl, inr, Bool, true, false, cond, List, [], ◌∷◌, length, get_or, map, Option, Some, None, refl, sym, ◌∙◌, ap, arith, length-set}
use Rattle.std.proofs.lemmas.Bool.{cases_lt}
use Rattle.std.proofs.lemmas.List.{ext_get_or, get_or-set_other, get_or-set_same, length-map}
use Rattle.std.proofs.lemmas.Option.{slice_get-get_or}
use Rattle.std.specs.List.{slice_get}
use Rattle.statement.specs.Patterns.{Holds}
use Rattle.unknown_inputs.specs.Unknowns.{Unknowns, holds_at_zero}
use Rattle.known_tests.specs.inner.Holding.{hold_set}

-- the first k of them are held as they should be, and none behind
pub record IsPartZeroed (us : Unknowns) (hs : Holds) (k : ℕ) (made : Holds) : Type 0 where
  pub size : length made ≡ length hs
  pub done : (j : ℕ) → j < k → get_or made j None ≡ get_or (holds_at_zero us hs) j None
  pub left : (j : ℕ) → k ≤ j → get_or made j None ≡ None

zero_size : (us : Unknowns) (hs : Holds) → length (holds_at_zero us hs) ≡ length hs
zero_size [] hs = refl
zero_size (u ∷ us) [] = refl
zero_size (true ∷ us) (h ∷ hs) = ap suc (zero_size us hs)
zero_size (false ∷ us) (h ∷ hs) = ap suc (zero_size us hs)

zero_at : (us : Unknowns) (hs : Holds) (k : ℕ) → length us ≡ length hs → k < length hs → get_or (holds_at_zero us hs) k None ≡ cond (get_or us k false) (Some false) (get_or hs k None)
zero_at [] [] k e l = absurd (omega (arith, l))
zero_at [] (h ∷ hs) k e l = absurd (omega (arith, e))
zero_at (u ∷ us) [] k e l = absurd (omega (arith, e))
zero_at (true ∷ us) (h ∷ hs) zero e l = refl
zero_at (false ∷ us) (h ∷ hs) zero e l = refl
zero_at (true ∷ us) (h ∷ hs) (suc k) e l = zero_at us hs k (omega (arith, e)) (omega (arith, l))
zero_at (false ∷ us) (h ∷ hs) (suc k) e l = zero_at us hs k (omega (arith, e)) (omega (arith, l))

set_size : (made : Holds) (k : ℕ) (hold : Option Bool) → length (hold_set made k hold) ≡ length made
set_size made k None = refl
set_size made k (Some b) = length-set made k (Some b)

set_here : (made : Holds) (k : ℕ) (hold : Option Bool) → k < length made → get_or made k None ≡ None → get_or (hold_set made k hold) k None ≡ hold
set_here made k None l none = none
set_here made k (Some b) l none = get_or-set_same made k (Some b) None l

set_other : (made : Holds) (k j : ℕ) (hold : Option Bool) → (j ≡ k → ⊥) → get_or (hold_set made k hold) j None ≡ get_or made j None
set_other made k j None other = refl
set_other made k j (Some b) other = get_or-set_other made k j (Some b) None other

abbrev none_for : {X : Type 0} → X → Option Bool
none_for x = None

none_at : {X : Type 0} (xs : List X) (j : ℕ) → get_or (map none_for xs) j None ≡ None
none_at [] j = refl
none_at (x ∷ xs) zero = refl
none_at (x ∷ xs) (suc j) = none_at xs j

pub own_at : (hs : Holds) (k : ℕ) (own : Option Bool) → k < length hs → slice_get hs k ≡ Some own → own ≡ get_or hs k None
own_at hs k own lt at =
    let here : Some own ≡ Some (get_or hs k None) = sym at ∙ slice_get-get_or hs k None lt in
    cc

module _ (us : Unknowns) (hs : Holds) (size : length us ≡ length hs) where
  pub none_zeroed : (made : Holds) → length made ≡ length hs → ((j : ℕ) → get_or made j None ≡ None) → IsPartZeroed us hs 0 made
  none_zeroed made same none = record { size = same; done = λ j l. absurd (omega (arith, l)); left = λ j l. none j }

  pub start_zeroed : {X : Type 0} (inputs : List X) (made : Holds) → length hs ≡ length inputs → made ≡ map none_for inputs → IsPartZeroed us hs 0 made
  start_zeroed {X} inputs made held is =
      none_zeroed made (ap length is ∙ (length-map inputs (none_for {X = X}) ∙ sym held)) (λ j. ap (λ (m : Holds). get_or m j None) is ∙ none_at inputs j)

  pub more_zeroed : (k : ℕ) (made new : Holds) (hold own : Option Bool) (unknown : Bool) → k < length hs → own ≡ get_or hs k None → unknown ≡ get_or us k false
      → hold ≡ cond unknown (Some false) own → new ≡ hold_set made k hold → IsPartZeroed us hs k made → IsPartZeroed us hs (k + 1) new
  more_zeroed k made new hold own unknown within is_own is_unknown is is_new part = record {
    size = ap length is_new ∙ (set_size made k hold ∙ part.size);
    done = λ j l. elim (cases_lt j k) [
      | inl less ↦ ap (λ (m : Holds). get_or m j None) is_new ∙ (set_other made k j hold (λ e. absurd (omega (arith, less, e))) ∙ part.done j less)
      | inr more ↦
          let same : k ≡ j = omega (arith, l, more) in
          let inside : k < length made = omega (arith, within, part.size) in
          let here : get_or (hold_set made k hold) k None ≡ hold = set_here made k hold inside (part.left k (omega arith)) in
          let due : hold ≡ get_or (holds_at_zero us hs) k None =
          is ∙ (ap (λ (b : Bool). cond b (Some false) own) is_unknown ∙ (ap (λ (h : Option Bool). cond (get_or us k false) (Some false) h) is_own ∙ sym (zero_at us hs k size within))) in
          ap (λ (m : Holds). get_or m j None) is_new
          ∙ (ap (λ i. get_or (hold_set made k hold) i None) (sym same) ∙ (here ∙ (due ∙ ap (λ i. get_or (holds_at_zero us hs) i None) same)))
    ];
    left = λ j l. ap (λ (m : Holds). get_or m j None) is_new ∙ (set_other made k j hold (λ e. absurd (omega (arith, l, e))) ∙ part.left j (omega (arith, l)));
  }

  pub all_zeroed : (k : ℕ) (made : Holds) → length hs ≤ k → IsPartZeroed us hs k made → made ≡ holds_at_zero us hs
  all_zeroed k made past part =
      ext_get_or None made (holds_at_zero us hs) (part.size ∙ sym (zero_size us hs)) (λ j l. part.done j (omega (arith, l, past, part.size)))
