-- One more fault numbered.
use Rattle.std.proofs.Common.{◌≡◌, ℕ, ◌+◌, ◌<◌, List, [], ◌∷◌, ◌++◌, length, get_or, sym, ◌∙◌, ap, Some, inl, inr, arith, length-append}
use Rattle.std.specs.List.{slice_get}
use Rattle.std.proofs.Math.Seq.{get_or-append_seam}
use Rattle.std.proofs.lemmas.Bool.{cases_lt}
use Rattle.std.proofs.lemmas.List.{get_or_append_left}
use Rattle.std.proofs.lemmas.Option.{slice_get-get_or}
use Rattle.statement.specs.declared.lines.Fault.{Fault}
use Rattle.fault_collapse.specs.inner.Merging.{AreNumbered, IsForest, LeadsTo}

-- a list with one more element
read_old : (xs ys : List ℕ) (v k : ℕ) → ys ≡ xs ++ v ∷ [] → k < length xs → get_or ys k 0 ≡ get_or xs k 0
read_old xs ys v k is l = ap (λ zs. get_or zs k 0) is ∙ get_or_append_left xs (v ∷ []) 0 k l

read_new : (xs ys : List ℕ) (v k : ℕ) → ys ≡ xs ++ v ∷ [] → k ≡ length xs → get_or ys k 0 ≡ v
read_new xs ys v k is e = ap (λ zs. get_or zs k 0) is ∙ (ap (λ m. get_or (xs ++ v ∷ []) m 0) e ∙ get_or-append_seam xs v [] 0)

get_old : (xs ys : List Fault) (f : Fault) (k : ℕ) → ys ≡ xs ++ f ∷ [] → k < length xs → slice_get ys k ≡ slice_get xs k
get_old xs ys f k is l =
    let more : k < length (xs ++ f ∷ []) = omega (arith, length-append xs (f ∷ [])) in
    ap (λ zs. slice_get zs k) is ∙ (slice_get-get_or (xs ++ f ∷ []) k f more ∙ (ap (λ g. Some g) (get_or_append_left xs (f ∷ []) f k l) ∙ sym (slice_get-get_or xs k f l)))

get_new : (xs ys : List Fault) (f : Fault) (k : ℕ) → ys ≡ xs ++ f ∷ [] → k ≡ length xs → slice_get ys k ≡ Some f
get_new xs ys f k is e =
    let more : k < length (xs ++ f ∷ []) = omega (arith, length-append xs (f ∷ [])) in
    ap (λ zs. slice_get zs k) is ∙ (slice_get-get_or (xs ++ f ∷ []) k f more ∙ ap (λ g. Some g) (ap (λ m. get_or (xs ++ f ∷ []) m f) e ∙ get_or-append_seam xs f [] f))

module _ (faults : List Fault) (parents : List ℕ) (first : ℕ → ℕ) (forest : IsForest parents) (leads : LeadsTo parents first)
    (numbers : List ℕ) (representatives : List Fault) (i : ℕ) (h : AreNumbered faults first numbers representatives i) (within : i < length parents) where
  earlier : (k : ℕ) → k < i → first k < i
  earlier k l = let low = leads.low k in omega arith

  pub first_class : (more : List ℕ) (all : List Fault) (f : Fault) (v : ℕ) → get_or parents i 0 ≡ i → slice_get faults i ≡ Some f → v ≡ length representatives
      → more ≡ numbers ++ v ∷ [] → all ≡ representatives ++ f ∷ [] → AreNumbered faults first more all (i + 1)
  first_class more all f v root at is m a =
      let size = h.size in
      let itself = leads.root i within root in
      let count : length all ≡ length representatives + 1 = omega (arith, ap length a, length-append representatives (f ∷ [])) in
      let here : get_or more i 0 ≡ v = read_new numbers more v i m (sym size) in
      record {
        size = omega (arith, ap length m, length-append numbers (v ∷ []));
        within = λ k l. elim (cases_lt k i) [
          | inl less ↦ let e = read_old numbers more v k m (omega arith) in let w = h.within k less in omega arith
          | inr same ↦ let e : get_or more k 0 ≡ get_or more i 0 = (let is : k ≡ i = omega arith in ap (λ j. get_or more j 0) is) in omega arith
        ];
        kept = λ k l. elim (cases_lt k i) [
          | inl less ↦
              let low = earlier k less in
              read_old numbers more v k m (omega arith) ∙ (h.kept k less ∙ sym (read_old numbers more v (first k) m (omega arith)))
          | inr same ↦ let is : k ≡ i = omega arith in ap (λ j. get_or more j 0) (is ∙ (sym itself ∙ ap first (sym is)))
        ];
        rising = λ r j l own less. elim (cases_lt r i) [
          | inl lower ↦
              let e = read_old numbers more v r m (omega arith) in
              let d = read_old numbers more v j m (omega arith) in
              let w = h.rising r j lower own less in
              omega arith
          | inr same ↦
              let e : get_or more r 0 ≡ get_or more i 0 = (let is : r ≡ i = omega arith in ap (λ k. get_or more k 0) is) in
              let d = read_old numbers more v j m (omega arith) in
              let w = h.within j (omega arith) in
              omega arith
        ];
        found = λ class l. elim (cases_lt class (length representatives)) [
          | inl lower ↦
              let w = h.found class lower in
              let lw : w.0 < i = w.1 in
              (w.0, omega arith, w.2, read_old numbers more v w.0 m (omega arith) ∙ w.3, w.4 ∙ sym (get_old representatives all f class a lower))
          | inr upper ↦
              let last : class ≡ length representatives = omega arith in
              (i, omega arith, itself, here ∙ (is ∙ sym last), at ∙ sym (get_new representatives all f class a last))
        ];
      }

  pub old_class : (more : List ℕ) (v : ℕ) → get_or parents i 0 < i → v ≡ get_or numbers (get_or parents i 0) 0 → more ≡ numbers ++ v ∷ [] → AreNumbered faults first more representatives (i + 1)
  old_class more v less is m =
      let size = h.size in
      let parent : ℕ = get_or parents i 0 in
      let same : first parent ≡ first i = leads.kept i within in
      let low = leads.low parent in
      let here : get_or more i 0 ≡ v = read_new numbers more v i m (sym size) in
      let known = h.within parent less in
      record {
        size = omega (arith, ap length m, length-append numbers (v ∷ []));
        within = λ k l. elim (cases_lt k i) [
          | inl lower ↦ let e = read_old numbers more v k m (omega arith) in let w = h.within k lower in omega arith
          | inr upper ↦ let e : get_or more k 0 ≡ get_or more i 0 = (let at : k ≡ i = omega arith in ap (λ j. get_or more j 0) at) in omega arith
        ];
        kept = λ k l. elim (cases_lt k i) [
          | inl lower ↦
              let before = earlier k lower in
              read_old numbers more v k m (omega arith) ∙ (h.kept k lower ∙ sym (read_old numbers more v (first k) m (omega arith)))
          | inr upper ↦
              let at : k ≡ i = omega arith in
              let firsts : first parent ≡ first k = same ∙ ap first (sym at) in
              ap (λ j. get_or more j 0) at ∙ (here ∙ (is ∙ (h.kept parent less ∙ (ap (λ j. get_or numbers j 0) firsts ∙ sym (read_old numbers more v (first k) m (omega arith))))))
        ];
        rising = λ r j l own before. elim (cases_lt r i) [
          | inl lower ↦
              let e = read_old numbers more v r m (omega arith) in
              let d = read_old numbers more v j m (omega arith) in
              let w = h.rising r j lower own before in
              omega arith
          | inr upper ↦
              let e : first r ≡ first i = (let at : r ≡ i = omega arith in ap first at) in
              absurd (omega arith)
        ];
        found = λ class l.
            let w = h.found class l in
            let lw : w.0 < i = w.1 in
            (w.0, omega arith, w.2, read_old numbers more v w.0 m (omega arith) ∙ w.3, w.4);
      }
