-- The grade of a fault by the first pattern that detects it, which is the last one in reverse order, and by the first strobe at which that does.
use Rattle.std.proofs.Common.{◌≡◌, ℕ, ◌+◌, ◌-◌, ◌*◌, ◌<◌, ◌≤◌, ◌⊎◌, List, length, get_or, reverse, Some, slice_get, sym, ◌∙◌, ap, subst, inl, inr, arith}
use Rattle.std.proofs.lemmas.Bool.{cases_lt}
use Rattle.std.proofs.lemmas.List.{get_or-reverse, length-reverse, reverse-reverse}
use Rattle.std.proofs.lemmas.Nat.{mul-le}
use Rattle.std.proofs.lemmas.Option.{same_Some, slice_get-get_or}
use Rattle.std.proofs.Math.Nat.{suc-mul}
use Rattle.statement.specs.declared.lines.Fault.{Fault}
use Rattle.statement.specs.declared.lines.Point.{Point}
use Rattle.statement.specs.declared.lines.Point.TheVariants.{Output, Cell}
use Rattle.statement.specs.Netlists.{Netlist}
use Rattle.statement.specs.Patterns.{Detects, IsDetectedAt, IsLastDetected, Pattern}
use Rattle.statement.specs.Tests.{IsStrobedAt, longest_of}
use Rattle.netlist.specs.Conditions.{IsSound}
use Rattle.scan_insert.specs.Scanned.{AreChainsOf}
use Rattle.scan_play.proofs.Places.{below_of, get_of, unloaded_early}
use Rattle.word_sim.specs.Hits.{IsNeverDetected}
use Rattle.grade.specs.Patterns.{IsPatternGrade, IsDetectingStrobe}
use Rattle.grade.specs.declared.grade.Grade.{Grade}
use Rattle.grade.specs.declared.grade.Grade.TheVariants.{Detected, Undetected}
use Rattle.grade.specs.inner.ByPatterns.{IsAtPlace}
use Rattle.grade.specs.inner.Keys.{IsFirstKey}
use Rattle.grade.proofs.Strobed.{strobed_once}

-- ---- in reverse order

reverse_get : {A : Type 0} (xs : List A) (k : ℕ) (x : A) → k < length xs → slice_get xs k ≡ Some x → slice_get (reverse xs) (length xs - 1 - k) ≡ Some x
reverse_get xs k x l e =
    let i = length xs - 1 - k in
    let size = length-reverse xs in
    slice_get-get_or (reverse xs) i x (omega (arith, l, size))
    ∙ ap Some (get_or-reverse xs i x (omega (arith, l)) ∙ (ap (λ m. get_or xs m x) (omega (arith, l)) ∙ get_of xs k x x e))

pub get_reverse : {A : Type 0} (xs : List A) (k : ℕ) (x : A) → slice_get (reverse xs) k ≡ Some x → (k < length xs) × (slice_get xs (length xs - 1 - k) ≡ Some x)
get_reverse xs k x e =
    let size = length-reverse xs in
    let l : k < length xs = (let b = below_of (reverse xs) k x e in omega (arith, b, size)) in
    let back = reverse_get (reverse xs) k x (omega (arith, l, size)) e in
    (l, ap (λ ys. slice_get ys (length xs - 1 - k)) (sym (reverse-reverse xs)) ∙ (ap (λ m. slice_get (reverse (reverse xs)) (m - 1 - k)) (sym size) ∙ back))

-- ---- a pattern later by so many

module _ (n : Netlist) (chains : List (List ℕ)) (sound : IsSound n) (are : AreChainsOf n chains) where
  later : (p : ℕ) (point : Point) (c o : ℕ) → IsStrobedAt n chains 0 point c o → IsStrobedAt n chains p point (c + p * (longest_of chains + 1)) o
  later p (Output k) c o at = (omega (arith, at.0), at.1)
  later p (Cell q) c o at = record {
    cell = at.cell;
    is_cell = at.is_cell;
    chain = at.chain;
    place = at.place;
    is_at = at.is_at;
    cycle_is = omega (arith, at.cycle_is, suc-mul p (longest_of chains + 1));
    output_is = at.output_is;
  }

  -- between its capture and the next one
  pub between : (p : ℕ) (point : Point) (c o : ℕ) → IsStrobedAt n chains p point c o
      → (3 * longest_of chains + p * (longest_of chains + 1) + longest_of chains ≤ c) × (c < 3 * longest_of chains + (p + 1) * (longest_of chains + 1) + longest_of chains)
  between p (Output k) c o at = (omega (arith, at.0), omega (arith, at.0, suc-mul p (longest_of chains + 1)))
  between p (Cell q) c o at =
      let early = unloaded_early n chains q at.cell at.chain at.place sound are at.is_cell at.is_at in
      (omega (arith, at.cycle_is, early, suc-mul p (longest_of chains + 1)), omega (arith, at.cycle_is, early))

  -- ---- the grade

  pub never_graded : (latest : List Pattern) (f : Fault) → IsNeverDetected n latest f → IsPatternGrade n chains (reverse latest) f Undetected
  never_graded latest f none c o seen =
      let d = seen.detected in
      let g = get_reverse latest seen.place d.pattern d.at in
      none (length latest - 1 - seen.place) seen.point (record { pattern = d.pattern; at = g.1; detects = d.detects })

  module _ (latest : List Pattern) (f : Fault) (place : ℕ) (point : Point) (last : IsLastDetected n latest f place point) (p : Pattern) (has : slice_get latest place ≡ Some p) (key : ℕ)
      (first : IsFirstKey n chains f p key) where
    abbrev number : ℕ
    number = length latest - 1 - place

    same_pattern : last.here.pattern ≡ p
    same_pattern = same_Some last.here.pattern p (sym last.here.at ∙ has)

    detects_there : Detects n f p.inputs p.cells point
    detects_there = subst (λ (q : Pattern). Detects n f q.inputs q.cells point) same_pattern last.here.detects

    inside : place < length latest
    inside = below_of latest place p has

    -- nothing is seen before
    not_before : (c o : ℕ) → ((d q : ℕ) (at : Point) → Detects n f p.inputs p.cells at → IsStrobedAt n chains number at d q → (d < c) ⊎ ((d ≡ c) × (q < o)) → ⊥)
        → c < 3 * longest_of chains + (number + 1) * (longest_of chains + 1) + longest_of chains
        → (d q : ℕ) → (d < c) ⊎ ((d ≡ c) × (q < o)) → IsDetectingStrobe n chains (reverse latest) f d q → ⊥
    not_before c o none bound d q before seen =
        let t = seen.detected in
        let g = get_reverse latest seen.place t.pattern t.at in
        let there : IsDetectedAt n latest f (length latest - 1 - seen.place) seen.point = record { pattern = t.pattern; at = g.1; detects = t.detects } in
        let l = g.0 in
        elim (cases_lt seen.place number) [
          | inl less ↦ last.last (length latest - 1 - seen.place) seen.point (omega (arith, less, l, inside)) there
          | inr high ↦ elim (cases_lt number seen.place) [
            | inl more ↦
                let product = mul-le (number + 1) (longest_of chains + 1) seen.place (longest_of chains + 1) (omega (arith, more)) (omega arith) in
                let b = (between seen.place seen.point d q seen.strobed).0 in
                elim before [ inl less ↦ absurd (omega (arith, product, b, bound, less)) | inr e ↦ let same = e.0 in absurd (omega (arith, product, b, bound, same)) ]
            | inr low ↦
                let same : seen.place ≡ number = omega (arith, low, high) in
                let at_place : slice_get latest place ≡ Some t.pattern =
                ap (λ i. slice_get latest i) (let e : place ≡ length latest - 1 - seen.place = omega (arith, same, l, inside) in e) ∙ g.1 in
                let pattern : t.pattern ≡ p = same_Some t.pattern p (sym at_place ∙ has) in
                none d q seen.point (subst (λ (x : Pattern). Detects n f x.inputs x.cells seen.point) pattern t.detects) (subst (λ i. IsStrobedAt n chains i seen.point d q) same seen.strobed) before
          ]
        ]

    pub first_graded : (longest number' : ℕ) (grade : Grade) → longest ≡ longest_of chains → number' ≡ length latest - 1 - place → IsAtPlace longest number' key grade
        → IsPatternGrade n chains (reverse latest) f grade
    first_graded longest number' grade long is at =
        let w = first.some point detects_there in
        let k = w.2 in
        let few = k.few in
        let few' = at.few in
        let cycle : at.cycle ≡ k.cycle = omega (arith, at.key_is, k.key_is, few, few') in
        let output : at.output ≡ k.output = omega (arith, at.key_is, k.key_is, few, few') in
        let c = k.cycle + number * (longest_of chains + 1) in
        let strobed : IsStrobedAt n chains number w.0 c k.output = later number w.0 k.cycle k.output k.strobed in
        let bound = (between number w.0 c k.output strobed).1 in
        let seen : IsDetectingStrobe n chains (reverse latest) f c k.output = record {
          place = number;
          point = w.0;
          detected = record { pattern = p; at = reverse_get latest place p inside has; detects = w.1 };
          strobed = strobed;
        } in
        let none : (d q : ℕ) (spot : Point) → Detects n f p.inputs p.cells spot → IsStrobedAt n chains number spot d q → (d < c) ⊎ ((d ≡ c) × (q < k.output)) → ⊥ =
        λ d q spot t strobed_there before.
        let m = first.lower spot t in
        let once = strobed_once n chains number spot d q (m.1.cycle + number * (longest_of chains + 1)) m.1.output sound are strobed_there (later number spot m.1.cycle m.1.output m.1.strobed) in
        let least = m.2 in
        let few'' = m.1.few in
        let one = once.0 in
        let two = once.1 in
        elim before [
          | inl less ↦ absurd (omega (arith, least, m.1.key_is, k.key_is, few, few'', one, less))
          | inr e ↦ let same = e.0 in let below = e.1 in absurd (omega (arith, least, m.1.key_is, k.key_is, few, few'', one, two, same, below))
        ] in
        let right : IsPatternGrade n chains (reverse latest) f (Detected c k.output) = (seen, λ d q before s. not_before c k.output none bound d q before s) in
        let same : grade ≡ Detected c k.output =
        at.grade_is ∙ (ap (λ x. Detected (x + number' * (longest + 1)) at.output) cycle ∙ (ap (λ x. Detected (k.cycle + number' * (longest + 1)) x) output
        ∙ (ap (λ x. Detected (k.cycle + x * (longest + 1)) k.output) is ∙ ap (λ x. Detected (k.cycle + number * (x + 1)) k.output) long))) in
        subst (IsPatternGrade n chains (reverse latest) f) (sym same) right
