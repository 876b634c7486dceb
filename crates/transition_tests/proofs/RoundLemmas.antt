-- Two rounds of searches: one fault more, and that the answers of both are those of the faults that are left.
use Rattle.std.proofs.Common.{◌≡◌, ℕ, ◌+◌, ◌<◌, ◌≤◌, inl, inr, Bool, true, false, List, ◌∷◌, ◌++◌, set, length, get_or, Option, Some, None, sym, ◌∙◌, ap, subst, arith, length-append}
use Rattle.std.proofs.lemmas.Bool.{cases_lt}
use Rattle.std.proofs.lemmas.List.{get_or_at, get_or-set_same, get_or-set_other}
use Rattle.std.proofs.lemmas.Option.{slice_get_within}
use Rattle.statement.specs.declared.lines.Fault.{Fault}
use Rattle.statement.specs.Netlists.{Netlist}
use Rattle.statement.specs.Patterns.{Holds}
use Rattle.evidence.specs.declared.engine.Found.{Found}
use Rattle.transition.specs.Searches.{AreFoundWhereLeft, IsFoundIfLeft}
use Rattle.transition_tests.specs.Rounds.{AreJoined, AreUnanswered, joined, unanswered}

pub joined_more : (left : List Bool) (first second old new done rest : List (Option Found)) (k : ℕ) (x : Option Found) → done ++ x ∷ rest ≡ first → k ≡ length done → k < length old
    → ((i : ℕ) → i < k → get_or old i None ≡ joined (get_or left i true) (get_or first i None) (get_or second i None)) → get_or old k None ≡ get_or second k None
    → new ≡ set old k (joined (get_or left k true) x (get_or old k None))
    → (i : ℕ) → i < k + 1 → get_or new i None ≡ joined (get_or left i true) (get_or first i None) (get_or second i None)
joined_more left first second old new done rest k x is count within before here put i lt = elim (cases_lt i k) [
  | inl low ↦
      let y : Option Found = joined (get_or left k true) x (get_or old k None) in
      let kept : get_or (set old k y) i None ≡ get_or old i None = get_or-set_other old k i y None (λ e. absurd (omega (arith, e, low))) in
      ap (λ (xs : List (Option Found)). get_or xs i None) put ∙ (kept ∙ before i low)
  | inr past ↦
      let same : i ≡ k = omega arith in
      let at : x ≡ get_or first k None = sym (get_or_at done x rest None k (sym count)) ∙ ap (λ (xs : List (Option Found)). get_or xs k None) is in
      subst (λ (j : ℕ). get_or new j None ≡ joined (get_or left j true) (get_or first j None) (get_or second j None)) (sym same)
      (ap (λ (xs : List (Option Found)). get_or xs k None) put
      ∙ (get_or-set_same old k (joined (get_or left k true) x (get_or old k None)) None within
      ∙ (ap (λ (a : Option Found). joined (get_or left k true) a (get_or old k None)) at ∙ ap (joined (get_or left k true) (get_or first k None)) here)))
]

-- the next answer has its place
pub yielded_within : (found done rest : List (Option Found)) (x : Option Found) (k : ℕ) → done ++ x ∷ rest ≡ found → k ≡ length done → k < length found
yielded_within found done rest x k is count = omega (arith, count, ap length is, length-append done (x ∷ rest))

-- those that are still to come stay
pub later_stay : (old new second : List (Option Found)) (k : ℕ) (y : Option Found) → ((i : ℕ) → k ≤ i → get_or old i None ≡ get_or second i None) → new ≡ set old k y
    → (i : ℕ) → k + 1 ≤ i → get_or new i None ≡ get_or second i None
later_stay old new second k y before put i le =
    let kept : get_or (set old k y) i None ≡ get_or old i None = get_or-set_other old k i y None (λ e. absurd (omega (arith, e, le))) in
    ap (λ (xs : List (Option Found)). get_or xs i None) put ∙ (kept ∙ before i (omega arith))

-- all answers were gone over
pub joined_all : (left : List Bool) (first second answers done rest : List (Option Found)) (k : ℕ) → done ++ rest ≡ first → length rest ≡ 0 → k ≡ length done → length first ≡ length left
    → length answers ≡ length left → ((i : ℕ) → i < k → get_or answers i None ≡ joined (get_or left i true) (get_or first i None) (get_or second i None))
    → AreJoined left first second answers
joined_all left first second answers done rest k is none count same size each = record {
  size = size;
  each = λ i lt. each i (omega (arith, lt, none, count, same, ap length is, length-append done rest));
}

module _ (n : Netlist) (holds : Holds) (limit : ℕ) (refutes : Bool) where
  one_joined : (f : Fault) (searched left : Bool) (a b : Option Found) → IsFoundIfLeft n holds limit refutes f searched a → IsFoundIfLeft n holds limit refutes f (unanswered left a) b
      → IsFoundIfLeft n holds limit refutes f left (joined left a b)
  one_joined f searched false None b first second = second
  one_joined f searched false (Some x) b first second = second
  one_joined f searched true None b first second = second
  one_joined f true true (Some x) b first second = first
  one_joined f false true (Some x) b first second = absurd (let e : Some x ≡ None = first in cc)

  -- the answers of both rounds are those of the faults that are left
  pub found_joined : (faults : List Fault) (searched left marks : List Bool) (first second answers : List (Option Found)) → length left ≡ length faults
      → AreFoundWhereLeft n holds limit refutes faults searched first → AreUnanswered left first marks → AreFoundWhereLeft n holds limit refutes faults marks second
      → AreJoined left first second answers → AreFoundWhereLeft n holds limit refutes faults left answers
  found_joined faults searched left marks first second answers size one unasked two are = record {
    size = are.size ∙ size;
    each = λ k f at.
        let low : k < length left = (let l = slice_get_within faults k f at in omega arith) in
        let other : IsFoundIfLeft n holds limit refutes f (unanswered (get_or left k true) (get_or first k None)) (get_or second k None) =
        subst (λ (b : Bool). IsFoundIfLeft n holds limit refutes f b (get_or second k None)) (unasked.each k low) (two.each k f at) in
        subst (IsFoundIfLeft n holds limit refutes f (get_or left k true)) (sym (are.each k low))
        (one_joined f (get_or searched k true) (get_or left k true) (get_or first k None) (get_or second k None) (one.each k f at) other);
  }
