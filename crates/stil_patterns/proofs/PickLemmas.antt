-- The test of patterns says exactly which obey.
use Rattle.std.proofs.Common.{◌≡◌, ◌∙◌, ◌&&◌, ◌==◌, ℕ, zero, suc, Bool, true, false, cond, List, [], ◌∷◌, ◌++◌, Some, None, ap, sym, refl, append-nil, arith, length, eq-eqb, slice_get}
use Rattle.std.specs.Prelude.{Option}
use Rattle.std.specs.List.{All, filter, list_all, zip}
use Rattle.std.proofs.lemmas.Bool.{and_from, and_parts, eqb-true}
use Rattle.std.proofs.lemmas.List.Elements.{All-head, All-tail, All-weaker, filter_passes}
use Rattle.statement.specs.Netlists.{Netlist, cells}
use Rattle.statement.specs.Patterns.{Holds, Obeys, Pattern}
use Rattle.netlist.specs.Holds.{AreHoldsOf}
use Rattle.cubes.specs.Cubes.{IsPatternOf}
use Rattle.stil_patterns.specs.Applied.{is_met, is_pattern}
use Rattle.stil_patterns.specs.Laws.{PicksPatterns}

met : (own bit : Bool) → is_met (Some own) bit ≡ true → bit ≡ own
met true true e = refl
met true false e = cc
met false true e = cc
met false false e = refl

meets : (held : Option Bool) (bit : Bool) → ((b : Bool) → held ≡ Some b → bit ≡ b) → is_met held bit ≡ true
meets None bit h = refl
meets (Some true) true h = refl
meets (Some true) false h = (let e : false ≡ true = h true refl in cc)
meets (Some false) true h = (let e : true ≡ false = h false refl in cc)
meets (Some false) false h = refl

abbrev all_met : Holds → List Bool → Bool
all_met holds inputs = list_all (λ q. is_met q.0 q.1) (zip holds inputs)

obeys_at : (holds : Holds) (inputs : List Bool) → length holds ≡ length inputs → all_met holds inputs ≡ true → (k : ℕ) (b : Bool) → slice_get holds k ≡ Some (Some b) → slice_get inputs k ≡ Some b
obeys_at [] inputs size all k b got = cc
obeys_at (held ∷ holds) [] size all k b got = absurd (omega (arith, size))
obeys_at (held ∷ holds) (bit ∷ inputs) size all zero b got =
    let own : held ≡ Some b = cc in
    ap (λ v. Some v) (met b bit (ap (λ h. is_met h bit) (sym own) ∙ (and_parts (is_met held bit) (all_met holds inputs) all).0))
obeys_at (held ∷ holds) (bit ∷ inputs) size all (suc k) b got = obeys_at holds inputs (omega (arith, size)) (and_parts (is_met held bit) (all_met holds inputs) all).1 k b got

all_obeyed : (holds : Holds) (inputs : List Bool) → Obeys holds inputs → all_met holds inputs ≡ true
all_obeyed [] inputs h = refl
all_obeyed (held ∷ holds) [] h = refl
all_obeyed (held ∷ holds) (bit ∷ inputs) h =
    and_from (is_met held bit) (all_met holds inputs)
    (meets held bit (λ b e. (let got : Some bit ≡ Some b = h zero b (ap (λ v. Some v) e) in cc)))
    (all_obeyed holds inputs (λ k b got. h (suc k) b got))

module _ (n : Netlist) (holds : Holds) where
  pub picked : (p : Pattern) → IsPatternOf n holds p → is_pattern n holds p ≡ true
  picked p is =
      and_from (length p.inputs == length n.inputs && length p.cells == length (cells n)) (all_met holds p.inputs)
      (and_from (length p.inputs == length n.inputs) (length p.cells == length (cells n)) (eq-eqb (length p.inputs) (length n.inputs) is.inputs) (eq-eqb (length p.cells) (length (cells n)) is.cells))
      (all_obeyed holds p.inputs is.obeys)

  pub obeying : (p : Pattern) → AreHoldsOf n holds → is_pattern n holds p ≡ true → IsPatternOf n holds p
  obeying p held e =
      let both = and_parts (length p.inputs == length n.inputs && length p.cells == length (cells n)) (all_met holds p.inputs) e in
      let sizes = and_parts (length p.inputs == length n.inputs) (length p.cells == length (cells n)) both.0 in
      let inputs = eqb-true (length p.inputs) (length n.inputs) sizes.0 in
      record {
        inputs = inputs;
        cells = eqb-true (length p.cells) (length (cells n)) sizes.1;
        obeys = obeys_at holds p.inputs (held ∙ sym inputs) both.1;
      }

  pub all_picked : (ps : List Pattern) → All (IsPatternOf n holds) ps → filter (is_pattern n holds) ps ≡ ps
  all_picked [] h = refl
  all_picked (p ∷ ps) h =
      ap (λ b. cond b (p ∷ filter (is_pattern n holds) ps) (filter (is_pattern n holds) ps)) (picked p (All-head (IsPatternOf n holds) p ps h))
      ∙ ap (λ (qs : List Pattern). p ∷ qs) (all_picked ps (All-tail (IsPatternOf n holds) p ps h))

  refused : (p : Pattern) → AreHoldsOf n holds → (IsPatternOf n holds p → ⊥) → is_pattern n holds p ≡ false
  refused p held not =
      let by : (b : Bool) → is_pattern n holds p ≡ b → b ≡ false = λ b. elim b as (λ c. is_pattern n holds p ≡ c → c ≡ false) [ true ↦ (λ e. absurd (not (obeying p held e))) | false ↦ (λ e. refl) ] in
      by (is_pattern n holds p) refl

  -- one test, kept or left
  pub kept_test : (tests : List Pattern) (p : Pattern) (old new : List Pattern) → tests ≡ p ∷ [] → IsPatternOf n holds p → new ≡ old ++ p ∷ [] → new ≡ old ++ filter (is_pattern n holds) tests
  kept_test tests p old new t is pushed = pushed ∙ ap (λ (ps : List Pattern). old ++ ps) (sym (ap (filter (is_pattern n holds)) t ∙ ap (λ b. cond b (p ∷ []) []) (picked p is)))

  pub left_test : (tests : List Pattern) (p : Pattern) (old : List Pattern) → AreHoldsOf n holds → tests ≡ p ∷ [] → (IsPatternOf n holds p → ⊥) → old ≡ old ++ filter (is_pattern n holds) tests
  left_test tests p old held t not =
      sym (ap (λ (ps : List Pattern). old ++ ps) (ap (filter (is_pattern n holds)) t ∙ ap (λ b. cond b (p ∷ []) []) (refused p held not)) ∙ append-nil old)

  pub picks_obey : AreHoldsOf n holds → (ps : List Pattern) → All (IsPatternOf n holds) (filter (is_pattern n holds) ps)
  picks_obey held ps =
      All-weaker (λ (p : Pattern). is_pattern n holds p ≡ true) (IsPatternOf n holds) (λ p e. obeying p held e) (filter (is_pattern n holds) ps) (filter_passes (is_pattern n holds) ps)

pub picks_patterns : PicksPatterns
picks_patterns n holds p held = ((λ e. obeying n holds p held e), (λ is. picked n holds p is))
