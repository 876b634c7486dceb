-- What is first said of a run, and of which places nothing is said.
use Rattle.std.proofs.Common.{◌≡◌, ℕ, suc, zero, ◌+◌, ◌<◌, ◌⊎◌, List, [], ◌∷◌, get_or, Some, None, slice_get, refl, sym, ◌∙◌, ap, subst, inl, inr, arith}
use Rattle.statement.specs.declared.kinds.Tri.{Tri}
use Rattle.statement.specs.declared.kinds.Tri.TheVariants.{X}
use Rattle.scan_play.specs.declared.played.Played.{Played}
use Rattle.statement.specs.Runs.{Cycle, strobe_at, shown_at}
use Rattle.scan_play.specs.Judging.{IsOpen, Judging, judged, judged_in}
use Rattle.scan_play.proofs.PlayLemmas.{or_none, or_cases}

some_same : (x y : Tri) → Some x ≡ Some y → x ≡ y
some_same x y e = cc

-- nothing is said of a place
abbrev pub IsSilent : Judging → ℕ → List Cycle → List (List Tri) → ℕ → ℕ → Type 0
IsSilent says c cycles shown k o = (v : Tri) → shown_at shown k o ≡ Some v → says (c + k) o (strobe_at cycles k o) v ≡ None

module _ (says : Judging) (opens : IsOpen says) where
  row_silent : (c o : ℕ) (ss vs : List Tri) → judged_in says c o ss vs ≡ None → (k : ℕ) (v : Tri) → slice_get vs k ≡ Some v → says c (o + k) (get_or ss k X) v ≡ None
  row_silent c o [] vs e k v at = opens c (o + k) v
  row_silent c o (s ∷ ss) [] e k v at = cc
  row_silent c o (s ∷ ss) (u ∷ vs) e zero v at =
      let here : o ≡ o + zero = omega arith in
      ap (λ j. says c j s v) (sym here) ∙ (ap (says c o s) (sym (some_same u v at)) ∙ (or_none (says c o s u) (judged_in says c (o + 1) ss vs) e).0)
  row_silent c o (s ∷ ss) (u ∷ vs) e (suc k) v at =
      let next : o + suc k ≡ o + 1 + k = omega arith in
      ap (λ j. says c j (get_or ss k X) v) next ∙ row_silent c (o + 1) ss vs (or_none (says c o s u) (judged_in says c (o + 1) ss vs) e).1 k v at

  pub all_silent : (c : ℕ) (cycles : List Cycle) (shown : List (List Tri)) → judged says c cycles shown ≡ None → (k o : ℕ) → IsSilent says c cycles shown k o
  all_silent c [] shown e k o v at = opens (c + k) o v
  all_silent c (x ∷ xs) [] e k o v at = cc
  all_silent c (x ∷ xs) (row ∷ rows) e zero o v at =
      let here : c + zero ≡ c = omega arith in
      ap (λ j. says j o (get_or x.strobe o X) v) here
      ∙ (ap (λ j. says c j (get_or x.strobe o X) v) (omega arith) ∙ row_silent c 0 x.strobe row (or_none (judged_in says c 0 x.strobe row) (judged says (c + 1) xs rows) e).0 o v at)
  all_silent c (x ∷ xs) (row ∷ rows) e (suc k) o v at =
      let next : c + suc k ≡ c + 1 + k = omega arith in
      ap (λ j. says j o (strobe_at xs k o) v) next ∙ all_silent (c + 1) xs rows (or_none (judged_in says c 0 x.strobe row) (judged says (c + 1) xs rows) e).1 k o v at

  -- the place of which something is first said
  pub record SaidAt (c : ℕ) (cycles : List Cycle) (shown : List (List Tri)) (p : Played) : Type 0 where
    pub cycle : ℕ
    pub output : ℕ
    pub value : Tri
    pub is_shown : shown_at shown cycle output ≡ Some value
    pub said : says (c + cycle) output (strobe_at cycles cycle output) value ≡ Some p
    pub before : (k o : ℕ) → (k < cycle) ⊎ ((k ≡ cycle) × (o < output)) → IsSilent says c cycles shown k o

  record SaidIn (c o : ℕ) (ss vs : List Tri) (p : Played) : Type 0 where
    place : ℕ
    value : Tri
    is_shown : slice_get vs place ≡ Some value
    said : says c (o + place) (get_or ss place X) value ≡ Some p
    before : (k : ℕ) (v : Tri) → k < place → slice_get vs k ≡ Some v → says c (o + k) (get_or ss k X) v ≡ None

  row_said : (c o : ℕ) (ss vs : List Tri) (p : Played) → judged_in says c o ss vs ≡ Some p → SaidIn c o ss vs p
  row_said c o [] vs p e = cc
  row_said c o (s ∷ ss) [] p e = cc
  row_said c o (s ∷ ss) (u ∷ vs) p e = elim (or_cases (says c o s u) (judged_in says c (o + 1) ss vs) p e) [
    | inl h ↦
        let here : o + 0 ≡ o = omega arith in
        record { place = 0; value = u; is_shown = refl; said = ap (λ j. says c j s u) here ∙ h; before = λ k v l. absurd (omega arith) }
    | inr h ↦
        let r = row_said c (o + 1) ss vs p h.1 in
        let next : o + suc r.place ≡ o + 1 + r.place = omega arith in
        record {
          place = suc r.place;
          value = r.value;
          is_shown = r.is_shown;
          said = ap (λ j. says c j (get_or ss r.place X) r.value) next ∙ r.said;
          before = elim [
            | zero ↦ λ v l at.
                let first : o + zero ≡ o = omega arith in
                ap (λ j. says c j s v) first ∙ (ap (says c o s) (sym (some_same u v at)) ∙ h.0)
            | suc k ↦ λ v l at.
                let more : o + suc k ≡ o + 1 + k = omega arith in
                ap (λ j. says c j (get_or ss k X) v) more ∙ r.before k v (omega arith) at
          ];
        }
  ]

  pub said_at : (c : ℕ) (cycles : List Cycle) (shown : List (List Tri)) (p : Played) → judged says c cycles shown ≡ Some p → SaidAt c cycles shown p
  said_at c [] shown p e = cc
  said_at c (x ∷ xs) [] p e = cc
  said_at c (x ∷ xs) (row ∷ rows) p e = elim (or_cases (judged_in says c 0 x.strobe row) (judged says (c + 1) xs rows) p e) [
    | inl h ↦
        let r = row_said c 0 x.strobe row p h in
        let here : c + 0 ≡ c = omega arith in
        let at : 0 + r.place ≡ r.place = omega arith in
        record {
          cycle = 0;
          output = r.place;
          value = r.value;
          is_shown = r.is_shown;
          said = ap (λ j. says j r.place (get_or x.strobe r.place X) r.value) here ∙ (ap (λ j. says c j (get_or x.strobe r.place X) r.value) (sym at) ∙ r.said);
          before = λ k o l v at. elim l [
            | inl less ↦ absurd (omega arith)
            | inr same ↦
                let first : k ≡ 0 = same.0 in
                let zero_o : 0 + o ≡ o = omega arith in
                subst (λ j. shown_at (row ∷ rows) j o ≡ Some v → says (c + j) o (strobe_at (x ∷ xs) j o) v ≡ None) (sym first)
                (λ shows. ap (λ j. says j o (get_or x.strobe o X) v) here ∙ (ap (λ j. says c j (get_or x.strobe o X) v) (sym zero_o) ∙ r.before o v same.1 shows)) at
          ];
        }
    | inr h ↦
        let r = said_at (c + 1) xs rows p h.1 in
        let next : c + suc r.cycle ≡ c + 1 + r.cycle = omega arith in
        record {
          cycle = suc r.cycle;
          output = r.output;
          value = r.value;
          is_shown = r.is_shown;
          said = ap (λ j. says j r.output (strobe_at xs r.cycle r.output) r.value) next ∙ r.said;
          before = elim [
            | zero ↦ λ o l v at.
                let here : c + zero ≡ c = omega arith in
                let zero_o : 0 + o ≡ o = omega arith in
                ap (λ j. says j o (get_or x.strobe o X) v) here ∙ (ap (λ j. says c j (get_or x.strobe o X) v) (sym zero_o) ∙ row_silent c 0 x.strobe row h.0 o v at)
            | suc k ↦ λ o l v at.
                let more : c + suc k ≡ c + 1 + k = omega arith in
                ap (λ j. says j o (strobe_at xs k o) v) more
                ∙ r.before k o (elim l [ inl less ↦ inl (omega arith) | inr same ↦ inr (omega (arith, same.0), same.1) ]) v at
          ];
        }
  ]
