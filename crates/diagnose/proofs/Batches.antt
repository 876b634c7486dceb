-- Suspects that are played in batches, and answers in shares.
use Rattle.std.proofs.Common.{◌≡◌, ℕ, suc, zero, ◌+◌, ◌-◌, ◌<◌, ◌≤◌, Bool, List, [], ◌∷◌, ◌++◌, map, length, get_or, set, take, drop, min, Option, Some, None, slice_get, refl, sym, ◌∙◌, ap, subst, inl, inr, arith, length-take}
use Rattle.std.specs.List.{AllZip}
use Rattle.std.specs.Fork.{IsChunk}
use Rattle.std.proofs.lemmas.Bool.{cases_eq, cases_lt}
use Rattle.std.proofs.lemmas.List.{map-append, take_more, length-drop, get_or_default, get_or-set_same, get_or-set_other, length-set}
use Rattle.std.proofs.lemmas.Option.{slice_get-get_or}
use Rattle.statement.specs.declared.lines.Fault.{Fault}
use Rattle.statement.specs.Netlists.{Netlist}
use Rattle.scan_insert.specs.declared.sites.Site.{Site}
use Rattle.scan_play.specs.declared.played.Played.{Played}
use Rattle.statement.specs.Runs.{Cycle}
use Rattle.scan_play.specs.Judging.{IsJudged}
use Rattle.lane_play.specs.Judged.{AreJudged}
use Rattle.diagnose.specs.declared.answers.Answer.{Answer}
use Rattle.diagnose.specs.inner.Against.{against}
use Rattle.diagnose.specs.inner.Answers.{AreAnswers, AreAnswersOf, ArePut, IsAnswer, answer_to, at_site}

-- ---- lists

none_some : {X Y : Type 0} (x : X) → None ≡ Some x → Y
none_some x e = cc

slice_in : {X : Type 0} (xs : List X) (m n j : ℕ) (x : X) → j < n → slice_get xs (m + j) ≡ Some x → slice_get (take n (drop m xs)) j ≡ Some x
slice_in [] m n j x l e = none_some x e
slice_in (y ∷ ys) zero zero j x l e = absurd (omega (arith, l))
slice_in (y ∷ ys) zero (suc n) zero x l e = e
slice_in (y ∷ ys) zero (suc n) (suc j) x l e =
    let at : 0 + suc j ≡ suc (0 + j) = omega arith in
    slice_in ys zero n j x (omega (arith, l)) (subst (λ i. slice_get (y ∷ ys) i ≡ Some x) at e)
slice_in (y ∷ ys) (suc m) n j x l e =
    let at : suc m + j ≡ suc (m + j) = omega arith in
    slice_in ys m n j x l (subst (λ i. slice_get (y ∷ ys) i ≡ Some x) at e)

pub zip_at : {X Y : Type 0} (R : X → Y → Type 0) (xs : List X) (ys : List Y) (j : ℕ) (x : X) (d : Y) → AllZip R xs ys → slice_get xs j ≡ Some x → R x (get_or ys j d)
zip_at R [] ys j x d h e = none_some x e
zip_at R (y ∷ xs) [] j x d h e = absurd h
zip_at R (y ∷ xs) (z ∷ ys) zero x d h e = subst (λ u. R u z) (same y x e) h.0
  where
    same : {X : Type 0} (a b : X) → Some a ≡ Some b → a ≡ b
    same a b e = cc
zip_at R (y ∷ xs) (z ∷ ys) (suc j) x d h e = zip_at R xs ys j x d h.1 e

pub slice_mapped : {X Y : Type 0} (f : X → Y) (xs : List X) (k : ℕ) (x : X) → slice_get xs k ≡ Some x → slice_get (map f xs) k ≡ Some (f x)
slice_mapped f [] k x e = none_some x e
slice_mapped f (y ∷ ys) zero x e = cc
slice_mapped f (y ∷ ys) (suc k) x e = slice_mapped f ys k x e

slice_is : {X : Type 0} (xs : List X) (k : ℕ) (x : X) → slice_get xs k ≡ Some x → (k < length xs) × (get_or xs k x ≡ x)
slice_is [] k x e = none_some x e
slice_is (y ∷ ys) zero x e = (omega arith, cc)
slice_is (y ∷ ys) (suc k) x e = let r = slice_is ys k x e in (omega (arith, r.0), r.1)

pub zip_length : {X Y : Type 0} (R : X → Y → Type 0) (xs : List X) (ys : List Y) → AllZip R xs ys → length ys ≡ length xs
zip_length R [] [] h = refl
zip_length R [] (y ∷ ys) h = absurd h
zip_length R (x ∷ xs) [] h = absurd h
zip_length R (x ∷ xs) (y ∷ ys) h = let r = zip_length R xs ys h.1 in omega (arith, r)

-- ---- answers in a row

pub one_put : (said : List (Option Played)) (start m : ℕ) (old new : List Answer) (d : Option Played) → m < length said → start + length said ≤ length old → ArePut said start m old new
    → ArePut said start (m + 1) old (set new (start + m) (answer_to (get_or said m d)))
one_put said start m old new d l room h =
    let v = answer_to (get_or said m d) in
    let inside : start + m < length new = (let s = h.size in omega (arith, l, room)) in
    record {
      size = length-set new (start + m) v ∙ h.size;
      here = λ k c e low. elim (cases_eq k m) [
        | inl same ↦
            ap (λ i. get_or (set new (start + m) v) (start + i) e) same ∙ (get_or-set_same new (start + m) v e inside
            ∙ (ap answer_to (get_or_default said m d c l) ∙ ap (λ i. answer_to (get_or said i c)) (sym same)))
        | inr ne ↦ get_or-set_other new (start + m) (start + k) v e (λ s. ne (omega (arith, s))) ∙ h.here k c e (omega (arith, low, ne))
      ];
      others = λ i e out.
          get_or-set_other new (start + m) i v e (λ s. elim out [ inl a ↦ omega (arith, s, a) | inr b ↦ omega (arith, s, b) ])
          ∙ h.others i e (elim out [ inl a ↦ inl a | inr b ↦ inr (omega (arith, b)) ]);
    }

-- ---- answers of suspects

module _ (marked : ℕ → ℕ → Bool) (s : Netlist) (cycles : List Cycle) (suspects : List Fault) where
  answered : (f : Fault) (said : Option Played) → IsJudged (against marked) s (Some f) cycles said → IsAnswer marked s f cycles (answer_to said)
  answered f None h = h
  answered f (Some p) h = (p, h)

  -- a batch more
  batch_answers : (first start count : ℕ) (old new : List Answer) (batch : List Fault) (said : List (Option Played)) → batch ≡ take count (drop (first + start) suspects) → length said ≡ length batch → length said ≤ count
      → AreAnswersOf marked s cycles suspects first old → AreJudged (against marked) s batch cycles said → ArePut said start (length said) old new → AreAnswersOf marked s cycles suspects first new
  batch_answers first start count old new batch said is size few before judged put k f a l at own = elim (cases_lt k start) [
    | inl low ↦ before k f a (let z = put.size in omega (arith, l)) at (sym (put.others k a (inl low)) ∙ own)
    | inr high ↦ elim (cases_lt k (start + length said)) [
      | inl inside ↦
          let j = k - start in
          let place : start + j ≡ k = omega (arith, high) in
          let low : j < length said = omega (arith, high, inside) in
          let there : first + k ≡ first + start + j = omega (arith, place) in
          let here : slice_get batch j ≡ Some f =
          ap (λ fs. slice_get fs j) is ∙ slice_in suspects (first + start) count j f (omega (arith, low, few)) (subst (λ i. slice_get suspects i ≡ Some f) there at) in
          let r = zip_at (λ g x. IsJudged (against marked) s (Some g) cycles x) batch said j f None judged here in
          let is_a : answer_to (get_or said j None) ≡ a = sym (put.here j None a low) ∙ (ap (λ i. get_or new i a) place ∙ own) in
          subst (IsAnswer marked s f cycles) is_a (answered f (get_or said j None) r)
      | inr behind ↦ before k f a (let z = put.size in omega (arith, l)) at (sym (put.others k a (inr behind)) ∙ own)
    ]
  ]

  -- as many answers as suspects
  batch_length : (begin count : ℕ) (said : List (Option Played)) → begin + count ≤ length suspects → AreJudged (against marked) s (take (begin + count - begin) (drop begin suspects)) cycles said
      → (length said ≡ count) × (length said ≡ length (take (begin + count - begin) (drop begin suspects))) × (take (begin + count - begin) (drop begin suspects) ≡ take count (drop begin suspects))
  batch_length begin count said room judged =
      let e : begin + count - begin ≡ count = omega arith in
      let same = ap (λ i. take i (drop begin suspects)) e in
      let size = zip_length (λ f x. IsJudged (against marked) s (Some f) cycles x) (take (begin + count - begin) (drop begin suspects)) said judged in
      let a = ap length same in
      let b = length-take count (drop begin suspects) in
      let d = length-drop begin suspects in
      (omega arith, size, same)

  -- up to 512 of those that are left
  module _ (first start count : ℕ) (old : List Answer) (said : List (Option Played)) (is : count ≡ min (length old - start) 512) (inside : start < length old) (share : first + length old ≤ length suspects)
      (judged : AreJudged (against marked) s (take (first + start + count - (first + start)) (drop (first + start) suspects)) cycles said) where
    pub batch_fits : start + length said ≤ length old
    batch_fits =
        let r = batch_length (first + start) count said (omega (arith, is, inside, share)) judged in
        let a = r.0 in
        omega (arith, a, is, inside)

    pub batch_put : (new : List Answer) → AreAnswersOf marked s cycles suspects first old → ArePut said start (length said) old new → AreAnswersOf marked s cycles suspects first new
    batch_put new before put =
        let r = batch_length (first + start) count said (omega (arith, is, inside, share)) judged in
        batch_answers first start count old new (take (first + start + count - (first + start)) (drop (first + start) suspects)) said r.2 r.1 (let a = r.0 in omega (arith, a)) before judged put

  -- ---- shares

  pub of_share : (size start : ℕ) (all share : List Answer) → IsChunk all size start share → AreAnswersOf marked s cycles suspects 0 all → AreAnswersOf marked s cycles suspects start share
  of_share size start all share chunk h k f a l at own =
      h (start + k) f a (let b = chunk.in_bounds in omega (arith, l)) (subst (λ i. slice_get suspects i ≡ Some f) (let e : start + k ≡ 0 + (start + k) = omega arith in e) at)
      (sym (chunk.elements k a l) ∙ own)

  pub from_share : (start offset i : ℕ) (after : List Answer) (f : Fault) (a b : Answer) → start + offset ≡ i → offset < length after → get_or after offset a ≡ b → b ≡ a
      → slice_get suspects (0 + i) ≡ Some f → AreAnswersOf marked s cycles suspects start after → IsAnswer marked s f cycles a
  from_share start offset i after f a b is low read own at h =
      h offset f a low (subst (λ m. slice_get suspects m ≡ Some f) (let e : 0 + i ≡ start + offset = omega (arith, is) in e) at) (read ∙ own)

-- ---- the answers of all classes

-- one suspect more
pub suspects_more : (sites : List Site) (representatives : List Fault) (k : ℕ) (fault : Fault) (suspects new : List Fault) → k < length representatives
    → ((f : Fault) → slice_get representatives k ≡ Some f → fault ≡ at_site sites f) → new ≡ suspects ++ fault ∷ [] → suspects ≡ map (at_site sites) (take k representatives)
    → new ≡ map (at_site sites) (take (k + 1) representatives)
suspects_more sites representatives k fault suspects new l made pushed h =
    let f = get_or representatives k fault in
    let is : fault ≡ at_site sites f = made f (slice_get-get_or representatives k fault l) in
    pushed ∙ (ap (λ fs. fs ++ fault ∷ []) h ∙ (ap (λ g. map (at_site sites) (take k representatives) ++ g ∷ []) is
    ∙ sym (ap (map (at_site sites)) (take_more representatives k fault l) ∙ map-append (at_site sites) (take k representatives) (f ∷ []))))

pub take_front : {X : Type 0} (xs ys : List X) (k : ℕ) → k ≡ length xs → take k (xs ++ ys) ≡ xs
take_front [] ys zero e = refl
take_front [] ys (suc k) e = absurd (omega (arith, e))
take_front (x ∷ xs) ys zero e = absurd (omega (arith, e))
take_front (x ∷ xs) ys (suc k) e = ap (λ zs. x ∷ zs) (take_front xs ys k (omega (arith, e)))

pub are_answers : (marked : ℕ → ℕ → Bool) (s : Netlist) (cycles : List Cycle) (sites : List Site) (representatives : List Fault) (suspects : List Fault) (answers : List Answer)
    → length answers ≡ length representatives → suspects ≡ map (at_site sites) representatives → AreAnswersOf marked s cycles suspects 0 answers → AreAnswers marked s sites cycles representatives answers
are_answers marked s cycles sites representatives suspects answers size is h = record {
  size = size;
  each = λ k f a at own.
      let r = slice_is answers k a own in
      let suspect : slice_get suspects (0 + k) ≡ Some (at_site sites f) =
      ap (λ i. slice_get suspects i) (let e : 0 + k ≡ k = omega arith in e) ∙ (ap (λ (fs : List Fault). slice_get fs k) is ∙ slice_mapped (at_site sites) representatives k f at) in
      h k (at_site sites f) a r.0 suspect r.1;
}
