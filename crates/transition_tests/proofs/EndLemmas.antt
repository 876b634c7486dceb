-- One fault more, and names by new places.
use Rattle.std.proofs.Common.{◌≡◌, ℕ, zero, suc, ◌+◌, ◌<◌, inl, inr, List, [], ◌∷◌, ◌++◌, length, get_or, take, take_all, append-nil, Option, Some, None, refl, sym, ◌∙◌, ap, subst, arith}
use Rattle.std.specs.List.{All, AllZip}
use Rattle.std.specs.Prelude.{IfSome}
use Rattle.std.proofs.lemmas.Bool.{cases_lt}
use Rattle.std.proofs.lemmas.List.{get_or_past, take_more}
use Rattle.std.proofs.lemmas.List.Elements.{All-get_or}
use Rattle.std.proofs.lemmas.Option.{none-some}
use Rattle.std.proofs.lemmas.Slice.Zip.{AllZip-long}
use Rattle.statement.specs.declared.lines.Point.{Point}
use Rattle.evidence.specs.declared.engine.Found.{Found}
use Rattle.evidence.specs.declared.engine.Found.TheVariants.{Test, Closed, Refuted, Partial}
use Rattle.list_core.specs.inner.Marks.{last_at}
use Rattle.transition_tests.specs.declared.verdicts.TransitionVerdict.{TransitionVerdict}
use Rattle.transition_tests.specs.declared.verdicts.TransitionVerdict.TheVariants.{Detected}
use Rattle.transition_tests.specs.inner.Ends.{AreVerdictsOf, IsVerdictOf, IsDetectedIfTested}

one_behind : (new : ℕ → ℕ) (found : List (Option Found)) (lasts : List (Option (ℕ × Point))) (vs : List TransitionVerdict) (x : Option Found) (last : Option (ℕ × Point)) (v : TransitionVerdict)
    → AreVerdictsOf new found lasts vs → IsVerdictOf new x last v → AreVerdictsOf new (found ++ x ∷ []) (lasts ++ last ∷ []) (vs ++ v ∷ [])
one_behind new [] [] [] x last v are is = (is, tt)
one_behind new [] [] (w ∷ vs) x last v are is = elim are [ ]
one_behind new [] (l ∷ lasts) vs x last v are is = elim are [ ]
one_behind new (y ∷ found) [] vs x last v are is = elim are [ ]
one_behind new (y ∷ found) (l ∷ lasts) [] x last v are is = elim are [ ]
one_behind new (y ∷ found) (l ∷ lasts) (w ∷ vs) x last v are is = (are.0, one_behind new found lasts vs x last v are.1 is)

-- one fault more
pub ends_more : (new : ℕ → ℕ) (found : List (Option Found)) (lasts : List (Option (ℕ × Point))) (old vs : List TransitionVerdict) (k : ℕ) (x : Option Found) (last : Option (ℕ × Point)) (v : TransitionVerdict)
    → k < length lasts → last ≡ get_or lasts k last → AreVerdictsOf new found (take k lasts) old → IsVerdictOf new x last v → vs ≡ old ++ v ∷ []
    → AreVerdictsOf new (found ++ x ∷ []) (take (k + 1) lasts) vs
ends_more new found lasts old vs k x last v lt is_last are is added =
    let taken : take k lasts ++ last ∷ [] ≡ take (k + 1) lasts =
    sym (take_more lasts k last lt ∙ ap (λ (l : Option (ℕ × Point)). take k lasts ++ l ∷ []) (sym is_last)) in
    subst (λ (ws : List TransitionVerdict). AreVerdictsOf new (found ++ x ∷ []) (take (k + 1) lasts) ws) (sym added)
    (subst (λ (ls : List (Option (ℕ × Point))). AreVerdictsOf new (found ++ x ∷ []) ls (old ++ v ∷ [])) taken (one_behind new found (take k lasts) old x last v are is))

end_renamed : (a b : ℕ → ℕ) (x : Option Found) (last : Option (ℕ × Point)) (v : TransitionVerdict) → ((l : ℕ × Point) → last ≡ Some l → a l.0 ≡ b l.0) → IsVerdictOf a x last v → IsVerdictOf b x last v
end_renamed a b x (Some l) v same is = is ∙ ap (λ k. Detected k l.1) (same l refl)
end_renamed a b None None v same is = is
end_renamed a b (Some (Test c o)) None v same is = is
end_renamed a b (Some (Closed t)) None v same is = is
end_renamed a b (Some (Refuted s)) None v same is = is
end_renamed a b (Some (Partial t)) None v same is = is

-- the same places by another name
pub ends_renamed : (a b : ℕ → ℕ) (found : List (Option Found)) (lasts : List (Option (ℕ × Point))) (vs : List TransitionVerdict)
    → ((c : ℕ) (l : ℕ × Point) → last_at lasts c ≡ Some l → a l.0 ≡ b l.0) → AreVerdictsOf a found lasts vs → AreVerdictsOf b found lasts vs
ends_renamed a b [] [] [] same are = tt
ends_renamed a b [] [] (v ∷ vs) same are = elim are [ ]
ends_renamed a b [] (l ∷ lasts) vs same are = elim are [ ]
ends_renamed a b (x ∷ found) [] vs same are = elim are [ ]
ends_renamed a b (x ∷ found) (l ∷ lasts) [] same are = elim are [ ]
ends_renamed a b (x ∷ found) (l ∷ lasts) (v ∷ vs) same are =
    (end_renamed a b x l v (λ w e. same zero w e) are.0, ends_renamed a b found lasts vs (λ c w e. same (suc c) w e) are.1)

-- ---- what the loop over answers takes

told_split : (done : List (Option Found)) (x : Option Found) (rest : List (Option Found)) (lasts : List (Option (ℕ × Point))) → AllZip IsDetectedIfTested (done ++ x ∷ rest) lasts
    → (length done < length lasts) × IsDetectedIfTested x (get_or lasts (length done) None)
told_split [] x rest [] told = elim told [ ]
told_split [] x rest (l ∷ lasts) told = (omega arith, told.0)
told_split (y ∷ done) x rest [] told = elim told [ ]
told_split (y ∷ done) x rest (l ∷ lasts) told = let r = told_split done x rest lasts told.1 in (omega (arith, r.0), r.1)

-- the next answer has its place, and where it is a test the fault is detected
pub told_at : (found done rest : List (Option Found)) (x : Option Found) (lasts : List (Option (ℕ × Point))) (k : ℕ) → AllZip IsDetectedIfTested found lasts → done ++ x ∷ rest ≡ found → k ≡ length done
    → (k < length lasts) × IsDetectedIfTested x (get_or lasts k None)
told_at found done rest x lasts k told is count =
    let r = told_split done x rest lasts (subst (λ (xs : List (Option Found)). AllZip IsDetectedIfTested xs lasts) (sym is) told) in
    subst (λ (i : ℕ). (i < length lasts) × IsDetectedIfTested x (get_or lasts i None)) (sym count) r

nothing_left : (xs : List (Option Found)) → length xs ≡ 0 → xs ≡ []
nothing_left [] e = refl
nothing_left (x ∷ xs) e = absurd (omega arith)

-- all answers were gone over
pub ends_all : (new : ℕ → ℕ) (found done rest : List (Option Found)) (lasts : List (Option (ℕ × Point))) (vs : List TransitionVerdict) (k : ℕ) → AllZip IsDetectedIfTested found lasts → done ++ rest ≡ found → length rest ≡ 0
    → k ≡ length done → AreVerdictsOf new done (take k lasts) vs → AreVerdictsOf new found lasts vs
ends_all new found done rest lasts vs k told is none count ends =
    let all : done ≡ found = sym (append-nil done) ∙ (ap (λ (xs : List (Option Found)). done ++ xs) (sym (nothing_left rest none)) ∙ is) in
    let size = AllZip-long IsDetectedIfTested found lasts told in
    let same = ap length all in
    let whole : take k lasts ≡ lasts = take_all k lasts (omega arith) in
    subst (λ (xs : List (Option Found)). AreVerdictsOf new xs lasts vs) all (subst (λ (ls : List (Option (ℕ × Point))). AreVerdictsOf new done ls vs) whole ends)

-- a place where some fault is last detected is below the bound of all
pub within_at : (bound : ℕ) (lasts : List (Option (ℕ × Point))) → All (λ (o : Option (ℕ × Point)). IfSome o (λ p. p.0 < bound)) lasts
    → (c : ℕ) (l : ℕ × Point) → last_at lasts c ≡ Some l → l.0 < bound
within_at bound lasts all c l e = elim (cases_lt c (length lasts)) [
  | inl lt ↦
      let P : Option (ℕ × Point) → Type 0 = λ o. IfSome o (λ p. p.0 < bound) in
      subst P e (All-get_or P lasts c None lt all)
  | inr past ↦ absurd (none-some l (sym (get_or_past lasts c None past) ∙ e))
]
