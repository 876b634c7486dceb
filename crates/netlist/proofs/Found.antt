-- The definition of a signal.
use Rattle.std.proofs.Common.{◌≡◌, ℕ, ◌<◌, ◌≤◌, Bool, true, false, cond, List, [], ◌∷◌, length, refl, sym, ◌∙◌, ap, Option, None, Some, inl, inr, arith, eqb}
use Rattle.std.specs.List.{All, Contains, find}
use Rattle.std.proofs.lemmas.Bool.{both_ways, eqb-true, eq-eqb, ne_eqb}
use Rattle.std.proofs.lemmas.List.Elements.{All-head, All-tail}
use Rattle.statement.specs.Netlists.{Definition, Netlist}
use Rattle.netlist.specs.Netlist.{definition_of}
use Rattle.netlist.specs.Conditions.{IsNumbered}
use Rattle.netlist.proofs.Lists.{All-from_contains, contains_head, contains_tail, contains_cases, contains_nil}
use Rattle.netlist.proofs.Placed.{same_definition}
use Rattle.netlist.proofs.Settling.{above_inputs}

find_step : {X : Type 0} (x : X) (r s : Option X) (b : Bool) → b ≡ false → r ≡ s → cond b (Some x) r ≡ s
find_step x r s true e h = absurd (both_ways true e refl)
find_step x r s false e h = h

pub find_none : {X : Type 0} (t : X → Bool) (xs : List X) → All (λ x. t x ≡ false) xs → find t xs ≡ None
find_none t [] h = refl
find_none t (x ∷ xs) h = find_step x (find t xs) None (t x) (All-head (λ y. t y ≡ false) x xs h) (find_none t xs (All-tail (λ y. t y ≡ false) x xs h))

-- where one element alone passes
pub find_one : {X : Type 0} (t : X → Bool) (xs : List X) (d : X) → Contains xs d → t d ≡ true → ((e : X) → Contains xs e → t e ≡ true → e ≡ d) → find t xs ≡ Some d
find_one t [] d c e same = absurd (contains_nil d c)
find_one {X} t (x ∷ xs) d c e same =
    let at_head : (b : Bool) → t x ≡ b → cond b (Some x) (find t xs) ≡ Some d =
    elim [
      | true ↦ λ h. ap (λ y. Some y) (same x (contains_head x xs) h)
      | false ↦ λ h. elim (contains_cases x d xs c) [
        | inl is ↦ absurd (both_ways (t x) h (ap t is ∙ e))
        | inr r ↦ find_one t xs d r e (λ y m. same y (contains_tail x y xs m))
      ]
    ] in
    at_head (t x) refl

module _ (n : Netlist) (numbered : IsNumbered n) where
  pub input_undefined : (x : ℕ) → x < length n.inputs → definition_of n x ≡ None
  input_undefined x l = find_none (λ (d : Definition). eqb d.id x) n.definitions
      (All-from_contains (λ (d : Definition). eqb d.id x ≡ false) n.definitions
      (λ d c. let high : length n.inputs ≤ d.id = above_inputs n numbered d c in ne_eqb d.id x (omega arith)))

  pub defined : (d : Definition) (x : ℕ) → Contains n.definitions d → d.id ≡ x → definition_of n x ≡ Some d
  defined d x c is = find_one (λ (e : Definition). eqb e.id x) n.definitions d c (eq-eqb d.id x is)
      (λ e m same. same_definition n numbered e d m c (eqb-true e.id x same ∙ sym is))
