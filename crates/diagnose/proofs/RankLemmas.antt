-- What there is for each fault, in the order in which it is listed.
use Rattle.std.proofs.Common.{◌≡◌, ℕ, ◌+◌, ◌<◌, List, [], ◌∷◌, ◌++◌, map, length, get_or, take, length-take, refl, sym, ◌∙◌, ap, arith}
use Rattle.std.proofs.lemmas.List.{get_or_default, take_more}
use Rattle.statement.specs.Runs.{numbers_from}
use Rattle.diagnose.specs.declared.ranks.Ranked.{Ranked}
use Rattle.diagnose.specs.inner.Ranks.{ranked_from}

module _ (one other : List ℕ) (strangers : ℕ) where
  ranked_last : (i : ℕ) (classes : List ℕ) (class place : ℕ) → place ≡ i + length classes
      → ranked_from one other strangers i (classes ++ class ∷ [])
      ≡ ranked_from one other strangers i classes ++ (record { place = place; missing = get_or one class 0 + strangers; extra = get_or other class 0 }) ∷ []
  ranked_last i [] class place e =
      let at : i ≡ place = omega (arith, e) in
      ap (λ (k : ℕ). (record { place = k; missing = get_or one class 0 + strangers; extra = get_or other class 0 }) ∷ []) at
  ranked_last i (c ∷ cs) class place e =
      ap (λ (rs : List Ranked). (record { place = i; missing = get_or one c 0 + strangers; extra = get_or other c 0 }) ∷ rs)
      (ranked_last (i + 1) cs class place (omega (arith, e)))

  pub ranked_more : (numbers : List ℕ) (i class x y : ℕ) (old new : List Ranked) (r : Ranked) → i < length numbers → class ≡ get_or numbers i 0 → class < length one → class < length other
      → x ≡ get_or one class x → y ≡ get_or other class y → r ≡ record { place = i; missing = x + strangers; extra = y } → old ≡ ranked_from one other strangers 0 (take i numbers) → new ≡ old ++ r ∷ []
      → new ≡ ranked_from one other strangers 0 (take (i + 1) numbers)
  ranked_more numbers i class x y old new r l is la lb read seen made h pushed =
      let size = length-take i numbers in
      let split : take (i + 1) numbers ≡ take i numbers ++ class ∷ [] = take_more numbers i class l ∙ ap (λ c. take i numbers ++ c ∷ []) (sym (is ∙ get_or_default numbers i 0 class l)) in
      let one_is : x ≡ get_or one class 0 = read ∙ get_or_default one class x 0 la in
      let other_is : y ≡ get_or other class 0 = seen ∙ get_or_default other class y 0 lb in
      let entry : r ≡ record { place = i; missing = get_or one class 0 + strangers; extra = get_or other class 0 } =
      made ∙ (ap (λ (k : ℕ). record { place = i; missing = k + strangers; extra = y }) one_is ∙ ap (λ (k : ℕ). record { place = i; missing = get_or one class 0 + strangers; extra = k }) other_is) in
      pushed ∙ (ap (λ rs. rs ++ r ∷ []) h ∙ (ap (λ x. ranked_from one other strangers 0 (take i numbers) ++ x ∷ []) entry
      ∙ (sym (ranked_last 0 (take i numbers) class i (omega arith)) ∙ ap (ranked_from one other strangers 0) (sym split))))

  pub ranked_places : (i : ℕ) (classes : List ℕ) → map (λ (r : Ranked). r.place) (ranked_from one other strangers i classes) ≡ numbers_from i (length classes)
  ranked_places i [] = refl
  ranked_places i (c ∷ cs) = ap (λ ks. i ∷ ks) (ranked_places (i + 1) cs)
