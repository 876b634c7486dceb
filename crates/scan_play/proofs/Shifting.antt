-- What the cells of chains hold while words are shifted in, for any kind of values.
use Rattle.std.proofs.Common.{◌≡◌, ℕ, suc, zero, ◌-◌, ◌<◌, ◌≤◌, List, [], ◌∷◌, ◌++◌, map, length, get_or, take, drop, replicate, reverse, refl, sym, ◌∙◌, ap, subst, inl, inr, arith, length-append, length-take, length-drop, add-one}
use Rattle.std.specs.List.{All, AllZip}
use Rattle.std.proofs.lemmas.Bool.{cases_lt}
use Rattle.std.proofs.lemmas.List.{append_assoc, reverse-append, length-reverse, length-replicate, take_more, take_at, take_all, take-append-le, take-take, drop_at, get_or-take, get_or_append_left, get_or-append_right, get_or-reverse, take-append-drop, reverse-reverse}
use Rattle.std.proofs.lemmas.List.Elements.{All-head, All-tail}
use Rattle.statement.specs.Tests.{cells_of, longest_of, by_chain, column}
use Rattle.scan_insert.specs.Laws.{shifted, last_values}

-- what the cells hold once t characters of each word are shifted in
abbrev pub held_at : {V : Type 0} → List (List ℕ) → List (List V) → ℕ → List V → List V
held_at [] words t state = []
held_at (chain ∷ chains) [] t state = []
held_at (chain ∷ chains) (w ∷ ws) t state = take (length chain) (reverse (take t w) ++ state) ++ held_at chains ws t (drop (length chain) state)

-- the words are of this length
abbrev pub AreOf : {V : Type 0} → ℕ → List (List V) → List (List ℕ) → Type 0
AreOf m [] [] = Unit {0}
AreOf m (w ∷ ws) (chain ∷ chains) = (length w ≡ m) × AreOf m ws chains
AreOf m _ _ = ⊥

take_long : {V : Type 0} (n : ℕ) (xs ys : List V) → n ≤ length ys → length (take n (xs ++ ys)) ≡ n
take_long n xs ys l = omega (arith, length-take n (xs ++ ys), length-append xs ys)

pub held_at_start : {V : Type 0} (m : ℕ) (chains : List (List ℕ)) (words : List (List V)) (state : List V) → AreOf m words chains → length state ≡ length (cells_of chains)
    → held_at chains words 0 state ≡ state
held_at_start m [] [] state a l = sym (drop_nil state l)
  where
    drop_nil : {V : Type 0} (vs : List V) → length vs ≡ 0 → vs ≡ []
    drop_nil [] e = refl
    drop_nil (v ∷ vs) e = absurd (omega (arith, e))
held_at_start m [] (w ∷ ws) state a l = absurd a
held_at_start m (chain ∷ chains) [] state a l = absurd a
held_at_start m (chain ∷ chains) (w ∷ ws) state a l =
    let rest = held_at_start m chains ws (drop (length chain) state) a.1 (omega (arith, length-drop (length chain) state, length-append chain (cells_of chains))) in
    ap (λ r. take (length chain) state ++ r) rest ∙ take-append-drop (length chain) state

-- one more shift
pub held_at_more : {V : Type 0} (m : ℕ) (d : V) (chains : List (List ℕ)) (words : List (List V)) (t : ℕ) (state : List V) → AreOf m words chains → t < m
    → length state ≡ length (cells_of chains)
    → shifted chains (column d words t) (held_at chains words t state) ≡ held_at chains words (suc t) state
held_at_more m d [] [] t state a l e = refl
held_at_more m d [] (w ∷ ws) t state a l e = absurd a
held_at_more m d (chain ∷ chains) [] t state a l e = absurd a
held_at_more {V} m d (chain ∷ chains) (w ∷ ws) t state a l e =
    let n = length chain in
    let x = get_or w t d in
    let front : List V = take n (reverse (take t w) ++ state) in
    let back : List V = held_at chains ws t (drop n state) in
    let enough : n ≤ length state = omega (arith, length-append chain (cells_of chains)) in
    let size : length front ≡ n = take_long n (reverse (take t w)) state enough in
    let long : t < length w = omega (arith, a.0) in
    let grown : reverse (take (suc t) w) ≡ x ∷ reverse (take t w) =
    ap (λ k. reverse (take k w)) (sym (add-one t)) ∙ (ap reverse (take_more w t d long) ∙ reverse-append (take t w) (x ∷ [])) in
    let here : take n (x ∷ front ++ back) ≡ take n (reverse (take (suc t) w) ++ state) =
    take-append-le n (x ∷ front) back (omega arith)
    ∙ (take_cut n x (reverse (take t w) ++ state) ∙ ap (λ r. take n (r ++ state)) (sym grown)) in
    let there : shifted chains (column d ws t) (drop n (front ++ back)) ≡ held_at chains ws (suc t) (drop n state) =
    ap (shifted chains (column d ws t)) (drop_at front back n size)
    ∙ held_at_more m d chains ws t (drop n state) a.1 l (omega (arith, length-drop n state, length-append chain (cells_of chains))) in
    ap (λ r. r ++ shifted chains (column d ws t) (drop n (front ++ back))) here ∙ ap (λ r. take n (reverse (take (suc t) w) ++ state) ++ r) there
  where
    take_cut : {V : Type 0} (n : ℕ) (x : V) (xs : List V) → take n (x ∷ take n xs) ≡ take n (x ∷ xs)
    take_cut zero x xs = refl
    take_cut (suc n) x xs = ap (λ r. x ∷ r) (take-take n (suc n) xs (omega arith))

-- the word that brings these values to a chain
abbrev pub word_before : {V : Type 0} → V → ℕ → List V → List V
word_before z m values = replicate (m - length values) z ++ reverse values

length-word_before : {V : Type 0} (z : V) (m : ℕ) (values : List V) → length values ≤ m → length (word_before z m values) ≡ m
length-word_before z m values l =
    omega (arith, length-append (replicate (m - length values) z) (reverse values), length-replicate (m - length values) z, length-reverse values)

pub words_are : {V : Type 0} (z : V) (m : ℕ) (chains : List (List ℕ)) (values : List V) → longest_of chains ≤ m → length values ≡ length (cells_of chains)
    → AreOf m (map (word_before z m) (by_chain chains values)) chains
words_are z m [] values l e = tt
words_are z m (chain ∷ chains) values l e =
    let n = length chain in
    let size : length (take n values) ≡ n = omega (arith, length-take n values, length-append chain (cells_of chains)) in (
      length-word_before z m (take n values) (omega arith),
      words_are z m chains (drop n values) (omega arith) (omega (arith, length-drop n values, length-append chain (cells_of chains))),
    )

-- what is to be loaded has been loaded
pub held_at_end : {V : Type 0} (z : V) (m : ℕ) (chains : List (List ℕ)) (values state : List V) → longest_of chains ≤ m → length values ≡ length (cells_of chains)
    → length state ≡ length (cells_of chains) → held_at chains (map (word_before z m) (by_chain chains values)) m state ≡ values
held_at_end z m [] [] state l b e = refl
held_at_end z m [] (x ∷ values) state l b e = absurd (omega (arith, b))
held_at_end z m (chain ∷ chains) values state l b e =
    let n = length chain in
    let own = take n values in
    let w = word_before z m own in
    let size : length own ≡ n = omega (arith, length-take n values, length-append chain (cells_of chains)) in
    let whole : take m w ≡ w = take_all m w (omega (arith, length-word_before z m own (omega arith))) in
    let turned : reverse w ≡ own ++ reverse (replicate (m - length own) z) =
    reverse-append (replicate (m - length own) z) (reverse own) ∙ ap (λ r. r ++ reverse (replicate (m - length own) z)) (reverse-reverse own) in
    let here : take n (reverse (take m w) ++ state) ≡ own =
    ap (λ r. take n (reverse r ++ state)) whole
    ∙ (ap (λ r. take n (r ++ state)) turned
    ∙ (ap (take n) (append_assoc own (reverse (replicate (m - length own) z)) state)
    ∙ take_at own (reverse (replicate (m - length own) z) ++ state) n size)) in
    let there = held_at_end z m chains (drop n values) (drop n state) (omega arith)
    (omega (arith, length-drop n values, length-append chain (cells_of chains)))
    (omega (arith, length-drop n state, length-append chain (cells_of chains))) in
    ap (λ r. r ++ held_at chains (map (word_before z m) (by_chain chains (drop n values))) m (drop n state)) here
    ∙ (ap (λ r. own ++ r) there ∙ take-append-drop n values)

pub zip_take : {X Y : Type 0} (R : X → Y → Type 0) (n : ℕ) (xs : List X) (ys : List Y) → AllZip R xs ys → AllZip R (take n xs) (take n ys)
zip_take R zero xs ys h = tt
zip_take R (suc n) [] [] h = tt
zip_take R (suc n) [] (y ∷ ys) h = absurd h
zip_take R (suc n) (x ∷ xs) [] h = absurd h
zip_take R (suc n) (x ∷ xs) (y ∷ ys) h = (h.0, zip_take R n xs ys h.1)

pub zip_drop : {X Y : Type 0} (R : X → Y → Type 0) (n : ℕ) (xs : List X) (ys : List Y) → AllZip R xs ys → AllZip R (drop n xs) (drop n ys)
zip_drop R zero xs ys h = h
zip_drop R (suc n) [] [] h = tt
zip_drop R (suc n) [] (y ∷ ys) h = absurd h
zip_drop R (suc n) (x ∷ xs) [] h = absurd h
zip_drop R (suc n) (x ∷ xs) (y ∷ ys) h = zip_drop R n xs ys h.1

pub zip_at : {X Y : Type 0} (R : X → Y → Type 0) (xs : List X) (ys : List Y) (k : ℕ) (d : X) (e : Y) → AllZip R xs ys → k < length xs → R (get_or xs k d) (get_or ys k e)
zip_at R [] ys k d e h l = absurd (omega (arith, l))
zip_at R (x ∷ xs) [] k d e h l = absurd h
zip_at R (x ∷ xs) (y ∷ ys) zero d e h l = h.0
zip_at R (x ∷ xs) (y ∷ ys) (suc k) d e h l = zip_at R xs ys k d e h.1 (omega arith)

pub zip_length : {X Y : Type 0} (R : X → Y → Type 0) (xs : List X) (ys : List Y) → AllZip R xs ys → length xs ≡ length ys
zip_length R [] [] h = refl
zip_length R [] (y ∷ ys) h = absurd h
zip_length R (x ∷ xs) [] h = absurd h
zip_length R (x ∷ xs) (y ∷ ys) h = omega (arith, zip_length R xs ys h.1)

-- the word that comes out, with any value where nothing is asked
abbrev pub word_after : {S : Type 0} → S → ℕ → List S → List S
word_after x m held = reverse held ++ replicate (m - length held) x

-- What the scan outputs show in shift t is what the strobes say, where it was so of what the cells held before.
module _ {S V : Type 0} (R : S → V → Type 0) (x : S) (open_place : (v : V) → R x v) where
  last_meets : (m n t : ℕ) (w : List V) (held : List S) (state : List V) (d : V) → length w ≡ m → t < m → 0 < n → length held ≡ n → AllZip R held (take n state) → n ≤ length state
      → R (get_or (word_after x m held) t x) (get_or (reverse (take t w) ++ state) (n - 1) d)
  last_meets m n t w held state d e l some size h enough =
      let shifted_in : length (reverse (take t w)) ≡ t = omega (arith, length-reverse (take t w), length-take t w) in
      elim (cases_lt t n) [
        | inl y ↦
            let strobe : get_or (word_after x m held) t x ≡ get_or held (n - 1 - t) x =
            get_or_append_left (reverse held) (replicate (m - length held) x) x t (omega (arith, length-reverse held))
            ∙ (get_or-reverse held t x (omega arith) ∙ ap (λ k. get_or held (k - 1 - t) x) size) in
            let shown : get_or (reverse (take t w) ++ state) (n - 1) d ≡ get_or (take n state) (n - 1 - t) d =
            get_or-append_right (reverse (take t w)) state t (n - 1) d shifted_in (omega arith)
            ∙ sym (get_or-take n state (n - 1 - t) d (omega arith)) in
            let met : R (get_or held (n - 1 - t) x) (get_or (take n state) (n - 1 - t) d) = zip_at R held (take n state) (n - 1 - t) x d h (omega arith) in
            subst (λ s. R s (get_or (reverse (take t w) ++ state) (n - 1) d)) (sym strobe) (subst (λ v. R (get_or held (n - 1 - t) x) v) (sym shown) met)
        | inr y ↦
            let strobe : get_or (word_after x m held) t x ≡ x =
            get_or-append_right (reverse held) (replicate (m - length held) x) n t x (omega (arith, length-reverse held)) y
            ∙ past (m - length held) (t - n) in
            subst (λ s. R s (get_or (reverse (take t w) ++ state) (n - 1) d)) (sym strobe) (open_place (get_or (reverse (take t w) ++ state) (n - 1) d))
      ]
    where
      past : (c k : ℕ) → get_or (replicate c x) k x ≡ x
      past zero k = refl
      past (suc c) zero = refl
      past (suc c) (suc k) = past c k

  pub strobes_meet : (m t : ℕ) (chains : List (List ℕ)) (words : List (List V)) (held : List S) (state : List V) (d : V) → AreOf m words chains → t < m
      → All (λ (chain : List ℕ). 0 < length chain) chains → length state ≡ length (cells_of chains) → AllZip R held state
      → AllZip R (column x (map (word_after x m) (by_chain chains held)) t) (last_values d chains (held_at chains words t state))
  strobes_meet m t [] [] held state d a l filled e h = tt
  strobes_meet m t [] (w ∷ ws) held state d a l filled e h = absurd a
  strobes_meet m t (chain ∷ chains) [] held state d a l filled e h = absurd a
  strobes_meet m t (chain ∷ chains) (w ∷ ws) held state d a l filled e h =
      let n = length chain in
      let some : 0 < n = All-head (λ (c : List ℕ). 0 < length c) chain chains filled in
      let enough : n ≤ length state = omega (arith, length-append chain (cells_of chains)) in
      let front : List V = take n (reverse (take t w) ++ state) in
      let back : List V = held_at chains ws t (drop n state) in
      let size : length front ≡ n = take_long n (reverse (take t w)) state enough in
      let own : length (take n held) ≡ n = omega (arith, length-take n held, zip_length R held state h) in
      let met = last_meets m n t w (take n held) state d a.0 l some own (zip_take R n held state h) enough in
      let last : get_or (front ++ back) (n - 1) d ≡ get_or (reverse (take t w) ++ state) (n - 1) d =
      get_or_append_left front back d (n - 1) (omega arith) ∙ get_or-take n (reverse (take t w) ++ state) (n - 1) d (omega arith) in
      let rest = strobes_meet m t chains ws (drop n held) (drop n state) d a.1 l (All-tail (λ (c : List ℕ). 0 < length c) chain chains filled)
      (omega (arith, length-drop n state, length-append chain (cells_of chains))) (zip_drop R n held state h) in (
        subst (λ v. R (get_or (word_after x m (take n held)) t x) v) (sym last) met,
        subst (λ (vs : List V). AllZip R (column x (map (word_after x m) (by_chain chains (drop n held))) t) (last_values d chains vs)) (sym (drop_at front back n size)) rest,
      )
