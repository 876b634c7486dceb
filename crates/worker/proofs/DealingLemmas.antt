-- What holds of all faults holds of those that are dealt to a part.
use Rattle.std.proofs.Common.{ℕ, ◌+◌, eqb, true, false, cond, List, [], ◌∷◌}
use Rattle.std.specs.List.{All}
use Rattle.std.proofs.lemmas.List.Elements.{All-cons, All-head, All-tail}
use Rattle.statement.specs.declared.lines.Fault.{Fault}
use Rattle.worker.specs.inner.Dealing.{part_of, dealt, dealt_hits}

module _ (P : Fault → Type 0) (numbers : List ℕ) (w : ℕ) where
  pub dealt_all : (faults : List Fault) → All P faults → All P (dealt numbers w faults)
  dealt_all [] all = all
  dealt_all (f ∷ fs) all =
      let rest : All P (dealt numbers w fs) = dealt_all fs (All-tail P f fs all) in
      elim (eqb (part_of numbers f) w) as (λ b. All P (cond b (f ∷ dealt numbers w fs) (dealt numbers w fs))) [
        | true ↦ All-cons P f (dealt numbers w fs) (All-head P f fs all) rest
        | false ↦ rest
      ]

  pub dealt_hits_all : (place : ℕ) (given : List (ℕ × Fault)) → All (λ (g : ℕ × Fault). P g.1) given → All (λ (g : ℕ × Fault). P g.1) (dealt_hits numbers w place given)
  dealt_hits_all place [] all = all
  dealt_hits_all place (g ∷ gs) all =
      let Q : ℕ × Fault → Type 0 = λ h. P h.1 in
      let more = dealt_hits numbers w (place + 1) gs in
      let rest : All Q more = dealt_hits_all (place + 1) gs (All-tail Q g gs all) in
      elim (eqb (part_of numbers g.1) w) as (λ b. All Q (cond b ((place, g.1) ∷ more) more)) [
        | true ↦ All-cons Q (place, g.1) more (All-head Q g gs all) rest
        | false ↦ rest
      ]
