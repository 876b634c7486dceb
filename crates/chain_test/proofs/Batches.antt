-- Faults that are played in batches of 512.
use Rattle.std.proofs.Common.{◌≡◌, ℕ, suc, zero, ◌+◌, ◌-◌, ◌*◌, ◌<◌, ◌≤◌, ◌⊎◌, List, [], ◌∷◌, ◌++◌, map, length, take, drop, Option, Some, None, sym, ◌∙◌, ap, subst, inl, inr, arith}
use Rattle.std.specs.List.{AllZip}
use Rattle.std.proofs.lemmas.List.{length-drop, take_all}
use Rattle.statement.specs.declared.lines.Fault.{Fault}
use Rattle.statement.specs.Netlists.{Netlist}
use Rattle.netlist.proofs.Alike.{zip_append}
use Rattle.scan_play.specs.declared.played.Played.{Played}
use Rattle.scan_play.specs.declared.played.Played.TheVariants.{Passes, Fails, Unknown}
use Rattle.statement.specs.Runs.{Cycle}
use Rattle.scan_play.specs.Judging.{IsJudged}
use Rattle.lane_play.specs.Judged.{AreJudged}
use Rattle.chain_test.specs.FirstWrong.{IsFirstWrong, known_wrong}
use Rattle.chain_test.specs.inner.Places.{named_place, place_of}
use Rattle.chain_test.proofs.KnownWrongs.{first_fails, first_none, never_passes, never_unknown}

first_named : (s : Netlist) (g : Fault) (cycles : List Cycle) (p : Played) → IsJudged known_wrong s (Some g) cycles (Some p) → IsFirstWrong s g cycles (named_place p)
first_named s g cycles Passes h = never_passes s g cycles h
first_named s g cycles (Fails c o) h = first_fails s g cycles c o h
first_named s g cycles (Unknown c o) h = never_unknown s g cycles c o h

pub first_place : (s : Netlist) (g : Fault) (cycles : List Cycle) (said : Option Played) → IsJudged known_wrong s (Some g) cycles said → IsFirstWrong s g cycles (place_of said)
first_place s g cycles None h = first_none s g cycles h
first_place s g cycles (Some p) h = first_named s g cycles p h

pub first_places : (s : Netlist) (cycles : List Cycle) (faults : List Fault) (said : List (Option Played)) → AreJudged known_wrong s faults cycles said
    → AllZip (λ f found. IsFirstWrong s f cycles found) faults (map place_of said)
first_places s cycles [] [] h = tt
first_places s cycles [] (x ∷ xs) h = absurd h
first_places s cycles (f ∷ fs) [] h = absurd h
first_places s cycles (f ∷ fs) (x ∷ xs) h = (first_place s f cycles x h.0, first_places s cycles fs xs h.1)

take_both : {X : Type 0} (xs : List X) (a b : ℕ) → take (a + b) xs ≡ take a xs ++ take b (drop a xs)
take_both xs zero b = ap (λ i. take i xs) (let e : zero + b ≡ b = omega arith in e)
take_both [] (suc a) b = ap (λ i. take i []) (let e : suc a + b ≡ suc (a + b) = omega arith in e) ∙ sym (take_all b [] (omega arith))
take_both (x ∷ xs) (suc a) b = ap (λ i. take i (x ∷ xs)) (let e : suc a + b ≡ suc (a + b) = omega arith in e) ∙ ap (λ ys. x ∷ ys) (take_both xs a b)

-- the next 512, or as many as there are
pub batch_taken : {X : Type 0} (xs : List X) (start count : ℕ) → start ≤ length xs → (count ≡ 512) ⊎ ((count ≡ length xs - start) × (count < 512)) → take (start + count - start) (drop start xs) ≡ take 512 (drop start xs)
batch_taken xs start count l h =
    let e : start + count - start ≡ count = omega arith in
    let size = length-drop start xs in
    ap (λ i. take i (drop start xs)) e ∙ elim h [
      | inl same ↦ ap (λ i. take i (drop start xs)) same
      | inr rest ↦ take_all count (drop start xs) (let r = rest.0 in omega arith) ∙ sym (take_all 512 (drop start xs) (let r = rest.0 in let f = rest.1 in omega arith))
    ]

-- one batch more
pub batch_more : {X Y : Type 0} (R : X → Y → Type 0) (xs : List X) (ys more new : List Y) (b : ℕ) (own : List X) → own ≡ take 512 (drop (b * 512) xs) → new ≡ ys ++ more
    → AllZip R (take (b * 512) xs) ys → AllZip R own more → AllZip R (take ((b + 1) * 512) xs) new
batch_more R xs ys more new b own is all h one =
    let e : (b + 1) * 512 ≡ b * 512 + 512 = omega arith in
    subst (λ zs. AllZip R zs new) (sym (ap (λ i. take i xs) e ∙ take_both xs (b * 512) 512))
    (subst (λ zs. AllZip R (take (b * 512) xs ++ take 512 (drop (b * 512) xs)) zs) (sym all)
    (zip_append R (take (b * 512) xs) (take 512 (drop (b * 512) xs)) ys more h (subst (λ zs. AllZip R zs more) is one)))
