-- The kept patterns detect what all patterns did, each class at the new place of its last one.
use Rattle.std.proofs.Common.{zero, suc, ◌≡◌, ◌⊎◌, inl, inr, ℕ, ◌+◌, ◌<◌, Bool, true, false, cond, List, [], ◌∷◌, length, get_or, Some, None, Option, refl, sym, ap, ◌∙◌, subst, arith}
use Rattle.std.specs.List.{All, AllZip, slice_get}
use Rattle.std.specs.Prelude.{IfSome}
use Rattle.std.proofs.lemmas.List.Elements.{All-cons}
use Rattle.std.proofs.lemmas.Slice.Zip.{AllZip-long}
use Rattle.std.proofs.lemmas.Option.{slice_get_within, slice_get-get_or}
use Rattle.statement.specs.declared.lines.Fault.{Fault}
use Rattle.statement.specs.declared.lines.Point.{Point}
use Rattle.statement.specs.Netlists.{Netlist}
use Rattle.statement.specs.Patterns.{Pattern, IsDetectedAt, IsLastDetected}
use Rattle.word_sim.specs.Hits.{LastDetected}
use Rattle.list_core.specs.declared.verdicts.Verdict.{Verdict}
use Rattle.list_core.specs.Verdicts.{verdict_at}
use Rattle.list_core.specs.Kept.{AreLastDetected, IsNeeded, is_last_at, kept_from, new_place, marked_from}
use Rattle.list_core.specs.Finished.{IsLastTold, IsFinished, AreFinished}
use Rattle.list_core.specs.inner.Marks.{last_at, new_verdict, ArePlaces, AreRenamed}
use Rattle.list_core.proofs.KeepLemmas.{source}
use Rattle.list_core.proofs.LastPlaces.{last_kept, marked_by, marked_where, never_kept, some_marked, told_of}

-- ---- where a class is last detected

-- two last patterns of one fault are one
same_last : (n : Netlist) (ps : List Pattern) (f : Fault) (a b : ℕ) (o p : Point) → IsLastDetected n ps f a o → IsLastDetected n ps f b p → a ≡ b
same_last n ps f a b o p x y =
    elim (three a b) [ inl lt ↦ absurd (x.last b p lt y.here) | inr r ↦ elim r [ inl e ↦ e | inr gt ↦ absurd (y.last a o gt x.here) ] ]
  where
    three : (i j : ℕ) → (i < j) ⊎ ((i ≡ j) ⊎ (j < i))
    three i j = grind arith

-- a marked place is needed
marked_needed : (n : Netlist) (ps : List Pattern) (fs : List Fault) (ls : List (Option (ℕ × Point))) (k : ℕ)
    → AllZip (LastDetected n ps) fs ls → is_last_at ls k ≡ true → IsNeeded n ps fs k
marked_needed n ps fs ls k are e = marked_by (LastDetected n ps) fs ls k are e

-- a needed place is marked
alone : (n : Netlist) (ps : List Pattern) (k : ℕ) (f : Fault) (l : Option (ℕ × Point)) (o : Point) → LastDetected n ps f l → IsLastDetected n ps f k o
    → (p : Point) × (l ≡ Some (k, p))
alone n ps k f None o never last = absurd (never k o last.here)
alone n ps k f (Some l) o other last = (l.1, ap (λ (i : ℕ). Some (i, l.1)) (same_last n ps f l.0 k l.1 o other last))

needed_marked : (n : Netlist) (ps : List Pattern) (fs : List Fault) (ls : List (Option (ℕ × Point))) (k : ℕ)
    → AllZip (LastDetected n ps) fs ls → IsNeeded n ps fs k → is_last_at ls k ≡ true
needed_marked n ps fs ls k are need = marked_where (LastDetected n ps) fs ls k are (alone n ps k) need

-- each pattern that is kept is needed among those that are kept
kept_needed : (n : Netlist) (ps : List Pattern) (fs : List Fault) (ls : List (Option (ℕ × Point))) → AllZip (LastDetected n ps) fs ls
    → (place : ℕ) → place < length (kept_from (is_last_at ls) 0 ps) → IsNeeded n (kept_from (is_last_at ls) 0 ps) fs place
kept_needed n ps fs ls are place lt =
    let marked : ℕ → Bool = is_last_at ls in
    let left = kept_from marked 0 ps in
    let none : Pattern = record { inputs = []; cells = [] } in
    let s = source marked 0 ps place (get_or left place none) (slice_get-get_or left place none lt) in
    let start : 0 + s.place ≡ s.place = omega arith in
    let mark : marked s.place ≡ true = subst (λ (i : ℕ). marked i ≡ true) start s.mark in
    let by = marked_by (LastDetected n ps) fs ls s.place are mark in
    let last = last_kept n ps marked by.0 s.place by.2.0 mark by.2.1 in
    (by.0, by.1, (by.2.0, subst (λ (k : ℕ). IsLastDetected n left by.0 k by.2.0) s.new last))

-- ---- verdicts

module _ (n : Netlist) (ps : List Pattern) (ls : List (Option (ℕ × Point))) where
  verdict_finished : (c : ℕ) (f : Fault) (l : Option (ℕ × Point)) (old : Verdict) → last_at ls c ≡ l → LastDetected n ps f l
      → IsFinished n (kept_from (is_last_at ls) 0 ps) f old (new_verdict (is_last_at ls) l old)
  verdict_finished c f None old is never = inr (refl, never_kept n ps (is_last_at ls) f never)
  verdict_finished c f (Some l) old is last =
      inl (new_place (is_last_at ls) l.0, l.1, refl, last_kept n ps (is_last_at ls) f l.0 l.1 (some_marked ls c l is) last)

  verdict_told : (c : ℕ) (f : Fault) (l : Option (ℕ × Point)) (old : Verdict) → last_at ls c ≡ l → LastDetected n ps f l
      → (place : ℕ) (point : Point) → IsDetectedAt n ps f place point → IsLastTold n (kept_from (is_last_at ls) 0 ps) f (new_verdict (is_last_at ls) l old)
  verdict_told c f None old is never place point seen = absurd (never place point seen)
  verdict_told c f (Some l) old is last place point seen =
      (new_place (is_last_at ls) l.0, l.1, refl, last_kept n ps (is_last_at ls) f l.0 l.1 (some_marked ls c l is) last)

pub same_count : (n : Netlist) (ps : List Pattern) (fs : List Fault) (ls : List (Option (ℕ × Point))) → AllZip (LastDetected n ps) fs ls → length ls ≡ length fs
same_count n ps fs ls are = AllZip-long (LastDetected n ps) fs ls are

pub are_finished : (n : Netlist) (fs : List Fault) (ps : List Pattern) (ls : List (Option (ℕ × Point))) (old new : List Verdict) (kept : List Pattern)
    → AreLastDetected n ps fs ls → length ls ≡ length old → AreRenamed (is_last_at ls) ls old new → kept ≡ kept_from (is_last_at ls) 0 ps
    → AreFinished n fs ps old kept new
are_finished n fs ps ls old new kept are size named is =
    let P : List Pattern → Type 0 = λ qs. AreFinished n fs ps old qs new in
    subst P (sym is) (record {
      are_kept = record {
        needed = is_last_at ls;
        exactly = λ k. ((λ m. marked_needed n ps fs ls k are m), (λ need. needed_marked n ps fs ls k are need));
        are = refl;
      };
      needed = kept_needed n ps fs ls are;
      count = named.size;
      each = λ c f at. (
          let Q : Verdict → Type 0 = λ v. IsFinished n (kept_from (is_last_at ls) 0 ps) f (verdict_at old c) v in
          subst Q (sym (named.each c (within c f at)))
          (verdict_finished n ps ls c f (last_at ls c) (verdict_at old c) refl (told_of (LastDetected n ps) fs ls c f are at))
          );
      detected = λ c f at place point seen. (
          let Q : Verdict → Type 0 = λ v. IsLastTold n (kept_from (is_last_at ls) 0 ps) f v in
          subst Q (sym (named.each c (within c f at)))
          (verdict_told n ps ls c f (last_at ls c) (verdict_at old c) refl (told_of (LastDetected n ps) fs ls c f are at) place point seen)
          );
    })
  where
    within : (c : ℕ) (f : Fault) → slice_get fs c ≡ Some f → c < length old
    within c f at = omega (arith, slice_get_within fs c f at, same_count n ps fs ls are, size)

-- each last place is one of the patterns
pub last_within : (n : Netlist) (ps : List Pattern) (fs : List Fault) (ls : List (Option (ℕ × Point))) → AllZip (LastDetected n ps) fs ls
    → All (λ (l : Option (ℕ × Point)). IfSome l (λ p. p.0 < length ps)) ls
last_within n ps [] [] are = λ k d lt. absurd (omega (arith, lt))
last_within n ps [] (l ∷ ls) are = elim are [ ]
last_within n ps (f ∷ fs) [] are = elim are [ ]
last_within n ps (f ∷ fs) (None ∷ ls) are =
    All-cons (λ (l : Option (ℕ × Point)). IfSome l (λ p. p.0 < length ps)) None ls tt (last_within n ps fs ls are.1)
last_within n ps (f ∷ fs) (Some l ∷ ls) are =
    All-cons (λ (m : Option (ℕ × Point)). IfSome m (λ p. p.0 < length ps)) (Some l) ls
    (slice_get_within ps l.0 are.0.here.pattern are.0.here.at) (last_within n ps fs ls are.1)

same_from : (a b : ℕ → Bool) → ((k : ℕ) → a k ≡ b k) → (k count : ℕ) → marked_from a k count ≡ marked_from b k count
same_from a b same k zero = refl
same_from a b same k (suc count) = ap (λ m. cond m 1 0 + marked_from a (suc k) count) (same k) ∙ ap (λ i. cond (b k) 1 0 + i) (same_from a b same (suc k) count)

same_kept : {X : Type 0} (a b : ℕ → Bool) → ((k : ℕ) → a k ≡ b k) → (k : ℕ) (xs : List X) → kept_from a k xs ≡ kept_from b k xs
same_kept a b same k [] = refl
same_kept a b same k (x ∷ xs) =
    ap (λ m. cond m (x ∷ kept_from a (suc k) xs) (kept_from a (suc k) xs)) (same k) ∙ ap (λ ys. cond (b k) (x ∷ ys) ys) (same_kept a b same (suc k) xs)

-- the same of marks in a list
pub places_of_last : (ls : List (Option (ℕ × Point))) (marks : List Bool) (places : List ℕ) (size : ℕ) → ((k : ℕ) → get_or marks k false ≡ is_last_at ls k)
    → size ≡ length places → ((k : ℕ) → k < size → get_or places k 0 ≡ new_place (λ i. get_or marks i false) k) → ArePlaces (is_last_at ls) places
places_of_last ls marks places size same e each k lt = each k (omega (arith, lt, e)) ∙ same_from (λ i. get_or marks i false) (is_last_at ls) same 0 k

pub kept_of_last : {X : Type 0} (ls : List (Option (ℕ × Point))) (marks : List Bool) (xs ys kept : List X) → ((k : ℕ) → get_or marks k false ≡ is_last_at ls k)
    → xs ≡ ys → kept ≡ kept_from (λ i. get_or marks i false) 0 xs → kept ≡ kept_from (is_last_at ls) 0 ys
kept_of_last ls marks xs ys kept same e is =
    is ∙ (same_kept (λ i. get_or marks i false) (is_last_at ls) same 0 xs ∙ ap (kept_from (is_last_at ls) 0) e)
