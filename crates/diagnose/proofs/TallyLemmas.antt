-- Counts of suspects that are played in batches.
use Rattle.std.proofs.Common.{◌≡◌, ℕ, suc, zero, ◌+◌, ◌-◌, ◌≤◌, List, [], ◌∷◌, ◌++◌, length, take, drop, min, Some, refl, sym, ◌∙◌, ap, subst, inl, inr, arith}
use Rattle.std.proofs.lemmas.Bool.{cases_lt}
use Rattle.std.proofs.lemmas.List.{length-drop, take_all}
use Rattle.statement.specs.declared.lines.Fault.{Fault}
use Rattle.statement.specs.Netlists.{Netlist}
use Rattle.statement.specs.Runs.{Cycle}
use Rattle.netlist.proofs.Alike.{zip_append}
use Rattle.lane_play.specs.Counted.{AreCounted, Counting, IsCounted}

take_nil : {X : Type 0} (n : ℕ) → take {A = X} n [] ≡ []
take_nil zero = refl
take_nil (suc n) = refl

pub take_plus : {X : Type 0} (a k : ℕ) (xs : List X) → take (a + k) xs ≡ take a xs ++ take k (drop a xs)
take_plus zero k [] = ap (λ m. take m []) (let e : 0 + k ≡ k = omega arith in e)
take_plus zero k (x ∷ xs) = ap (λ m. take m (x ∷ xs)) (let e : 0 + k ≡ k = omega arith in e)
take_plus (suc a) k [] = take_nil (suc a + k) ∙ sym (take_nil k)
take_plus (suc a) k (x ∷ xs) = ap (λ m. take m (x ∷ xs)) (let e : suc a + k ≡ suc (a + k) = omega arith in e) ∙ ap (λ ys. x ∷ ys) (take_plus a k xs)

pub tally_none : (counts : Counting) (s : Netlist) (suspects : List Fault) (cycles : List Cycle) (numbers : List ℕ) → numbers ≡ [] → AreCounted counts s (take 0 suspects) cycles numbers
tally_none counts s [] cycles numbers e = subst (λ xs. AreCounted counts s [] cycles xs) (sym e) tt
tally_none counts s (f ∷ fs) cycles numbers e = subst (λ xs. AreCounted counts s [] cycles xs) (sym e) tt

-- the next 128, or as many as there are
pub batch_taken : {X : Type 0} (xs : List X) (start count : ℕ) → count ≡ min (length xs - start) 128 → take (start + count - start) (drop start xs) ≡ take 128 (drop start xs)
batch_taken xs start count is =
    let e : start + count - start ≡ count = omega arith in
    let size = length-drop start xs in
    ap (λ i. take i (drop start xs)) e ∙ elim (cases_lt (length xs - start) 128) [
      | inl less ↦ take_all count (drop start xs) (omega (arith, is, less, size)) ∙ sym (take_all 128 (drop start xs) (omega (arith, less, size)))
      | inr full ↦ (let whole : count ≡ 128 = omega (arith, is, full) in ap (λ i. take i (drop start xs)) whole)
    ]

-- one batch more
pub tally_more : (counts : Counting) (s : Netlist) (suspects batch : List Fault) (cycles : List Cycle) (start : ℕ) (old more new : List ℕ) → batch ≡ take 128 (drop start suspects)
    → AreCounted counts s (take start suspects) cycles old → AreCounted counts s batch cycles more → new ≡ old ++ more → AreCounted counts s (take (start + 128) suspects) cycles new
tally_more counts s suspects batch cycles start old more new next before own is =
    subst (λ fs. AreCounted counts s fs cycles new) (sym (take_plus start 128 suspects))
    (subst (λ xs. AreCounted counts s (take start suspects ++ take 128 (drop start suspects)) cycles xs) (sym is)
    (zip_append (λ f number. IsCounted counts s (Some f) cycles number) (take start suspects) (take 128 (drop start suspects)) old more before (subst (λ fs. AreCounted counts s fs cycles more) next own)))

pub tally_all : (counts : Counting) (s : Netlist) (suspects : List Fault) (cycles : List Cycle) (k : ℕ) (numbers : List ℕ) → length suspects ≤ k → AreCounted counts s (take k suspects) cycles numbers
    → AreCounted counts s suspects cycles numbers
tally_all counts s suspects cycles k numbers l h = subst (λ fs. AreCounted counts s fs cycles numbers) (take_all k suspects l) h
