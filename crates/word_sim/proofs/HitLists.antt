-- Hits, one fault after another.
use Rattle.std.proofs.Common.{◌≡◌, ℕ, ◌+◌, ◌<◌, ◌++◌, ◌∷◌, [], List, length, take, get_or, Option, Some, None, refl, sym, ◌∙◌, ap, subst, inl, inr}
use Rattle.std.specs.Option.{option_map}
use Rattle.std.proofs.lemmas.List.{take_more}
use Rattle.statement.specs.declared.lines.Fault.{Fault}
use Rattle.statement.specs.Netlists.{Netlist}
use Rattle.statement.specs.Patterns.{Pattern}
use Rattle.word_sim.specs.declared.batches.Hit.{Hit}
use Rattle.word_sim.specs.Hits.{AreHits, LastDetected}
use Rattle.word_sim.specs.inner.Found.{hit_of}
use Rattle.observed_points.specs.Points.{point_of}

module _ (n : Netlist) (patterns : List Pattern) where
  one_hit : (given : ℕ × Fault) (found : Option (ℕ × ℕ)) → LastDetected n patterns given.1 (option_map (λ (w : ℕ × ℕ). (w.0, point_of n w.1)) found) → AreHits n patterns (given ∷ []) (hit_of n given.0 found)
  one_hit given None h = inl (h, refl)
  one_hit given (Some w) h = inr (record { class = given.0; pattern = w.0; point = point_of n w.1 }, [], refl, refl, h, refl)

  hits_append : (faults more : List (ℕ × Fault)) (hits others : List Hit) → AreHits n patterns faults hits → AreHits n patterns more others → AreHits n patterns (faults ++ more) (hits ++ others)
  hits_append [] more hits others h k = subst (AreHits n patterns more) (ap (λ (hs : List Hit). hs ++ others) (sym h)) k
  hits_append (g ∷ gs) more hits others h k = elim h [
    | inl none ↦ inl (none.0, hits_append gs more hits others none.1 k)
    | inr w ↦ inr (w.0, w.1 ++ others, ap (λ (hs : List Hit). hs ++ others) w.2, w.3, w.4, hits_append gs more w.1 others w.5 k)
  ]

  pub hits_more : (faults : List (ℕ × Fault)) (k : ℕ) (given : ℕ × Fault) (old new : List Hit) (found : Option (ℕ × ℕ)) → k < length faults → given ≡ get_or faults k given
      → AreHits n patterns (take k faults) old → LastDetected n patterns given.1 (option_map (λ (w : ℕ × ℕ). (w.0, point_of n w.1)) found) → new ≡ old ++ hit_of n given.0 found
      → AreHits n patterns (take (k + 1) faults) new
  hits_more faults k given old new found l is h last made =
      subst (λ (gs : List (ℕ × Fault)). AreHits n patterns gs new) (ap (λ (g : ℕ × Fault). take k faults ++ g ∷ []) is ∙ sym (take_more faults k given l))
      (subst (AreHits n patterns (take k faults ++ given ∷ [])) (sym made) (hits_append (take k faults) (given ∷ []) old (hit_of n given.0 found) h (one_hit given found last)))
