-- Elements at marked places.
use Rattle.std.proofs.Common.{zero, suc, ◌≡◌, ℕ, ◌+◌, ◌-◌, ◌<◌, ◌≤◌, Bool, true, false, cond, List, [], ◌∷◌, ◌++◌, length, get_or, Some, refl, sym, ap, ◌∙◌, subst, arith, below_more}
use Rattle.std.specs.List.{All, slice_get}
use Rattle.std.proofs.lemmas.List.{get_or_append_left}
use Rattle.std.proofs.lemmas.List.Elements.{All-nil, All-cons, All-head, All-tail}
use Rattle.std.proofs.Math.Seq.{get_or-append_seam}
use Rattle.list_core.specs.Kept.{kept_from, marked_from, new_place}

abbrev pub one : Bool → ℕ
one b = cond b 1 0

-- a marked element stands at its new place
pub kept_at : {X : Type 0} (marked : ℕ → Bool) (k : ℕ) (xs : List X) (m : ℕ) (x : X)
    → slice_get xs m ≡ Some x → marked (k + m) ≡ true → slice_get (kept_from marked k xs) (marked_from marked k m) ≡ Some x
kept_at marked k [] m x e h = cc
kept_at marked k (y ∷ ys) zero x e h =
    let here : marked k ≡ true = (let P : ℕ → Type 0 = λ i. marked i ≡ true in let q : k + 0 ≡ k = omega arith in subst P q h) in
    ap (λ (b : Bool). slice_get (cond b (y ∷ kept_from marked (suc k) ys) (kept_from marked (suc k) ys)) 0) here ∙ e
kept_at marked k (y ∷ ys) (suc m) x e h =
    let next : marked (suc k + m) ≡ true = (let P : ℕ → Type 0 = λ i. marked i ≡ true in let q : k + suc m ≡ suc k + m = omega arith in subst P q h) in
    let rest = kept_at marked (suc k) ys m x e next in
    by_mark (marked k) rest
  where
    by_mark : (b : Bool) → slice_get (kept_from marked (suc k) ys) (marked_from marked (suc k) m) ≡ Some x
        → slice_get (cond b (y ∷ kept_from marked (suc k) ys) (kept_from marked (suc k) ys)) (cond b 1 0 + marked_from marked (suc k) m) ≡ Some x
    by_mark false r = (let q : 0 + marked_from marked (suc k) m ≡ marked_from marked (suc k) m = omega arith in
        ap (λ i. slice_get (kept_from marked (suc k) ys) i) q ∙ r)
    by_mark true r = (let q : 1 + marked_from marked (suc k) m ≡ suc (marked_from marked (suc k) m) = omega arith in
        ap (λ i. slice_get (y ∷ kept_from marked (suc k) ys) i) q ∙ r)

-- where a kept element comes from
pub record Source {X : Type 0} (marked : ℕ → Bool) (k : ℕ) (xs : List X) (q : ℕ) (x : X) : Type 0 where
  pub place : ℕ
  pub at : slice_get xs place ≡ Some x
  pub mark : marked (k + place) ≡ true
  pub new : marked_from marked k place ≡ q

pub source : {X : Type 0} (marked : ℕ → Bool) (k : ℕ) (xs : List X) (q : ℕ) (x : X) → slice_get (kept_from marked k xs) q ≡ Some x → Source marked k xs q x
source marked k [] q x e = cc
source marked k (y ∷ ys) q x e = by_mark (λ r h. source marked (suc k) ys r x h) (marked k) q refl e
  where
    later : (b : Bool) (r : ℕ) → marked k ≡ b → Source marked (suc k) ys r x → Source marked k (y ∷ ys) (cond b 1 0 + r) x
    later b r is s = record {
      place = suc s.place;
      at = s.at;
      mark = (let P : ℕ → Type 0 = λ i. marked i ≡ true in let w : suc k + s.place ≡ k + suc s.place = omega arith in subst P w s.mark);
      new = ap (λ (c : Bool). cond c 1 0 + marked_from marked (suc k) s.place) is ∙ ap (λ i. cond b 1 0 + i) s.new;
    }

    by_mark : ((r : ℕ) → slice_get (kept_from marked (suc k) ys) r ≡ Some x → Source marked (suc k) ys r x)
        → (b : Bool) (r : ℕ) → marked k ≡ b → slice_get (cond b (y ∷ kept_from marked (suc k) ys) (kept_from marked (suc k) ys)) r ≡ Some x → Source marked k (y ∷ ys) r x
    by_mark find true zero is h = record {
      place = 0;
      at = h;
      mark = (let P : ℕ → Type 0 = λ i. marked i ≡ true in let w : k ≡ k + 0 = omega arith in subst P w is);
      new = refl;
    }
    by_mark find true (suc r) is h = (
        let P : ℕ → Type 0 = λ i. Source marked k (y ∷ ys) i x in
        let w : 1 + r ≡ suc r = omega arith in
        subst P w (later true r is (find r h))
        )
    by_mark find false r is h = (
        let P : ℕ → Type 0 = λ i. Source marked k (y ∷ ys) i x in
        let w : 0 + r ≡ r = omega arith in
        subst P w (later false r is (find r h))
        )

-- new places rise with the places
pub marked_more : (marked : ℕ → Bool) (k a b : ℕ) → marked_from marked k (a + b) ≡ marked_from marked k a + marked_from marked (k + a) b
marked_more marked k zero b =
    (let p : 0 + b ≡ b = omega arith in ap (marked_from marked k) p)
    ∙ ((let q : k ≡ k + 0 = omega arith in ap (λ i. marked_from marked i b) q) ∙ (let r : marked_from marked (k + 0) b ≡ 0 + marked_from marked (k + 0) b = omega arith in r))
marked_more marked k (suc a) b =
    let p : suc a + b ≡ suc (a + b) = omega arith in
    let rest = marked_more marked (suc k) a b in
    let q : suc k + a ≡ k + suc a = omega arith in
    let whole : marked_from marked (suc k) (a + b) ≡ marked_from marked (suc k) a + marked_from marked (k + suc a) b = rest ∙ ap (λ i. marked_from marked (suc k) a + marked_from marked i b) q in
    ap (marked_from marked k) p ∙ (ap (λ i. one (marked k) + i) whole
    ∙ (let r : one (marked k) + (marked_from marked (suc k) a + marked_from marked (k + suc a) b) ≡ (one (marked k) + marked_from marked (suc k) a) + marked_from marked (k + suc a) b = omega arith in r))

pub next_marked : (marked : ℕ → Bool) (k : ℕ) → marked_from marked 0 (k + 1) ≡ marked_from marked 0 k + cond (marked k) 1 0
next_marked marked k =
    marked_more marked 0 k 1 ∙ (let p : 0 + k ≡ k = omega arith in ap (λ i. marked_from marked 0 k + (cond (marked i) 1 0 + 0)) p
    ∙ (let q : marked_from marked 0 k + (cond (marked k) 1 0 + 0) ≡ marked_from marked 0 k + cond (marked k) 1 0 = omega arith in q))

pub one_small : (b : Bool) → one b ≤ 1
one_small true = omega arith
one_small false = omega arith

pub rises : (marked : ℕ → Bool) (a b : ℕ) → a < b → marked a ≡ true → new_place marked a < new_place marked b
rises marked a b lt mark =
    let more : b ≡ (a + 1) + (b - (a + 1)) = omega arith in
    let split : new_place marked b ≡ new_place marked (a + 1) + marked_from marked (0 + (a + 1)) (b - (a + 1)) =
    ap (marked_from marked 0) more ∙ marked_more marked 0 (a + 1) (b - (a + 1)) in
    let next : new_place marked (a + 1) ≡ new_place marked a + one (marked a) = next_marked marked a in
    let up : one (marked a) ≡ one true = ap one mark in
    omega (arith, split, next, up)

kept_behind : {X : Type 0} (marked : ℕ → Bool) (k : ℕ) (ys : List X) (x : X)
    → kept_from marked k (ys ++ x ∷ []) ≡ kept_from marked k ys ++ cond (marked (k + length ys)) (x ∷ []) []
kept_behind marked k [] x = (let w : k ≡ k + 0 = omega arith in ap (λ i. cond (marked i) (x ∷ []) []) w)
kept_behind marked k (y ∷ ys) x =
    let w : suc k + length ys ≡ k + suc (length ys) = omega arith in
    by_mark (marked k) (kept_behind marked (suc k) ys x ∙ ap (λ i. kept_from marked (suc k) ys ++ cond (marked i) (x ∷ []) []) w)
  where
    by_mark : (b : Bool) → kept_from marked (suc k) (ys ++ x ∷ []) ≡ kept_from marked (suc k) ys ++ cond (marked (k + suc (length ys))) (x ∷ []) []
        → cond b (y ∷ kept_from marked (suc k) (ys ++ x ∷ [])) (kept_from marked (suc k) (ys ++ x ∷ []))
        ≡ cond b (y ∷ kept_from marked (suc k) ys) (kept_from marked (suc k) ys) ++ cond (marked (k + suc (length ys))) (x ∷ []) []
    by_mark true r = ap (λ zs. y ∷ zs) r
    by_mark false r = r

pub kept_next : {X : Type 0} (marked : ℕ → Bool) (done : List X) (x : X)
    → kept_from marked 0 (done ++ x ∷ []) ≡ kept_from marked 0 done ++ cond (marked (length done)) (x ∷ []) []
kept_next marked done x =
    let w : 0 + length done ≡ length done = omega arith in
    kept_behind marked 0 done x ∙ ap (λ i. kept_from marked 0 done ++ cond (marked i) (x ∷ []) []) w

-- what holds of all holds of those that are kept, and they are no more
pub kept_all : {X : Type 0} (P : X → Type 0) (marked : ℕ → Bool) (k : ℕ) (xs : List X) → All P xs → All P (kept_from marked k xs)
kept_all P marked k [] h = All-nil P
kept_all P marked k (x ∷ xs) h =
    let rest = kept_all P marked (suc k) xs (All-tail P x xs h) in
    elim (marked k) as (λ (b : Bool). All P (cond b (x ∷ kept_from marked (suc k) xs) (kept_from marked (suc k) xs))) [
      | true ↦ All-cons P x (kept_from marked (suc k) xs) (All-head P x xs h) rest
      | false ↦ rest
    ]

pub kept_few : {X : Type 0} (marked : ℕ → Bool) (k : ℕ) (xs : List X) → length (kept_from marked k xs) ≤ length xs
kept_few marked k [] = omega arith
kept_few marked k (x ∷ xs) =
    let rest = kept_few marked (suc k) xs in
    elim (marked k) as (λ (b : Bool). length (cond b (x ∷ kept_from marked (suc k) xs) (kept_from marked (suc k) xs)) ≤ suc (length xs)) [ true ↦ omega arith | false ↦ omega arith ]

-- one more value behind others, each of which is what its place asks for
pub each_more : (f : ℕ → ℕ) (xs ys : List ℕ) (k v : ℕ) → length xs ≡ k → ys ≡ xs ++ v ∷ [] → v ≡ f k → ((i : ℕ) → i < k → get_or xs i 0 ≡ f i)
    → (i : ℕ) → i < k + 1 → get_or ys i 0 ≡ f i
each_more f xs ys k v size is here before =
    below_more (λ i. get_or ys i 0 ≡ f i) k
    (λ i lt. let within : i < length xs = omega (arith, lt, size) in ap (λ zs. get_or zs i 0) is ∙ (get_or_append_left xs (v ∷ []) 0 i within ∙ before i lt))
    (ap (λ zs. get_or zs k 0) is ∙ (ap (λ i. get_or (xs ++ v ∷ []) i 0) (sym size) ∙ (get_or-append_seam xs v [] 0 ∙ here)))

pub item_more : {X : Type 0} (marked : ℕ → Bool) (done left new : List X) (x : X) (place : ℕ) (b : Bool)
    → place ≡ length done → left ≡ kept_from marked 0 done → b ≡ marked place → new ≡ left ++ cond b (x ∷ []) []
    → new ≡ kept_from marked 0 (done ++ x ∷ [])
item_more marked done left new x place b count is mark added =
    added ∙ (ap (λ zs. zs ++ cond b (x ∷ []) []) is ∙ (ap (λ c. kept_from marked 0 done ++ cond c (x ∷ []) []) (mark ∙ ap marked count) ∙ sym (kept_next marked done x)))
