-- Names that are met one by one, and found again.
use denote.Ref.{Bor}
use Rattle.std.proofs.Common.{◌≡◌, ℕ, ◌+◌, ◌<◌, ◌≢◌, Bool, true, false, List, [], ◌∷◌, ◌++◌, length, get_or, take, sym, ap, ◌∙◌, arith, inl, inr, if◌then◌else◌, Some}
use Rattle.std.specs.List.{AllPairs, list_any, position}
use Rattle.std.specs.Str.{bytes_eq}
use Rattle.std.proofs.lemmas.Bool.{both_ways, cases_Bool}
use Rattle.std.proofs.lemmas.List.{get_or-take, get_or-map, length-map, length-take-le, map_push, take_more}
use Rattle.std.proofs.lemmas.List.Elements.{Contains-get_or}
use Rattle.std.proofs.lemmas.List.Quantifiers.{position-Some}
use Rattle.std.proofs.lemmas.Slice.Eq.{bytes_eq-Decides}
use Rattle.netlist.proofs.Lists.{any_true, any_from}
use Rattle.name_index.specs.inner.Keys.{bytes_of}

bytes_at : (keys : List (Bor (List ℕ))) (j : ℕ) (k : Bor (List ℕ)) (d : List ℕ) → j < length keys → get_or (bytes_of keys) j d ≡ (get_or keys j k).now
bytes_at keys j k d l = get_or-map (λ (key : Bor (List ℕ)). key.now) keys j k d l

-- the name at m is none of those before it
unmet : (keys : List (Bor (List ℕ))) (x : Bor (List ℕ)) (names : List (List ℕ)) (m : ℕ) → bytes_of keys ≡ take m names → AllPairs (λ x y. x ≢ y) names → m < length names
    → x.now ≡ get_or names m [] → list_any (λ (y : Bor (List ℕ)). bytes_eq x.now y.now) keys ≡ false
unmet keys x names m met distinct l here = elim (cases_Bool (list_any (λ (y : Bor (List ℕ)). bytes_eq x.now y.now) keys)) [
  | inr none ↦ none
  | inl some ↦
      let w = any_true (λ (y : Bor (List ℕ)). bytes_eq x.now y.now) keys some in
      let at = w.1 in
      let size : length keys ≡ m = sym (length-map keys (λ (key : Bor (List ℕ)). key.now)) ∙ (ap (λ (xs : List (List ℕ)). length xs) met ∙ length-take-le m names (omega arith)) in
      let inside : at.0 < length keys = at.1 in
      let below : at.0 < m = omega arith in
      let same : x.now ≡ w.0.now = (bytes_eq-Decides x.now w.0.now).0 w.2 in
      let name : get_or names at.0 [] ≡ w.0.now =
      sym (get_or-take m names at.0 [] below) ∙ (ap (λ (xs : List (List ℕ)). get_or xs at.0 []) (sym met) ∙ (bytes_at keys at.0 w.0 [] at.1 ∙ ap (λ (k : Bor (List ℕ)). k.now) at.2)) in
      absurd (distinct at.0 m [] below l (name ∙ (sym same ∙ here)))
]

-- one name more
pub met_more : (keys new : List (Bor (List ℕ))) (x : Bor (List ℕ)) (names : List (List ℕ)) (m : ℕ) → bytes_of keys ≡ take m names → AllPairs (λ x y. x ≢ y) names → m < length names
    → x.now ≡ get_or names m [] → new ≡ (if list_any (λ (y : Bor (List ℕ)). bytes_eq x.now y.now) keys then keys else keys ++ x ∷ []) → bytes_of new ≡ take (m + 1) names
met_more keys new x names m met distinct l here is =
    let last : new ≡ keys ++ x ∷ [] = is ∙ ap (λ (b : Bool). if b then keys else keys ++ x ∷ []) (unmet keys x names m met distinct l here) in
    ap bytes_of last ∙ (map_push (λ (key : Bor (List ℕ)). key.now) keys x ∙ (ap (λ (xs : List (List ℕ)). xs ++ x.now ∷ []) met
    ∙ (ap (λ (name : List ℕ). take m names ++ name ∷ []) here ∙ sym (take_more names m [] l))))

-- what is found at a place is the name there
found_at : (keys : List (Bor (List ℕ))) (names : List (List ℕ)) (name : List ℕ) (k : Bor (List ℕ)) (place : ℕ) → bytes_of keys ≡ names → place < length keys
    → bytes_eq name (get_or keys place k).now ≡ true → (place < length names) × (get_or names place [] ≡ name)
found_at keys names name k place are l same =
    let size : length keys ≡ length names = sym (length-map keys (λ (key : Bor (List ℕ)). key.now)) ∙ ap (λ (xs : List (List ℕ)). length xs) are in
    (omega arith, ap (λ (xs : List (List ℕ)). get_or xs place []) (sym are) ∙ (bytes_at keys place k [] l ∙ sym ((bytes_eq-Decides name (get_or keys place k).now).0 same)))

pub found : (keys : List (Bor (List ℕ))) (names : List (List ℕ)) (name : List ℕ) (place : ℕ) → bytes_of keys ≡ names → place < length keys
    → position (λ (y : Bor (List ℕ)). bytes_eq name y.now) keys ≡ Some place → (place < length names) × (get_or names place [] ≡ name)
found [] names name place are l is = absurd (omega (arith, l))
found (k ∷ ks) names name place are l is =
    let w = position-Some (λ (y : Bor (List ℕ)). bytes_eq name y.now) (k ∷ ks) place k is in
    found_at (k ∷ ks) names name k place are w.0 w.1

-- what isn't found is no name
pub found_nowhere : (keys : List (Bor (List ℕ))) (names : List (List ℕ)) (name : List ℕ) → bytes_of keys ≡ names
    → list_any (λ (y : Bor (List ℕ)). bytes_eq name y.now) keys ≡ false → (x : ℕ) → x < length names → get_or names x [] ≢ name
found_nowhere [] names name are none x l e = let size : 0 ≡ length names = ap (λ (xs : List (List ℕ)). length xs) are in absurd (omega arith)
found_nowhere (k ∷ ks) names name are none x l e =
    let keys : List (Bor (List ℕ)) = k ∷ ks in
    let size : length (k ∷ ks) ≡ length names = sym (length-map (k ∷ ks) (λ (key : Bor (List ℕ)). key.now)) ∙ ap (λ (xs : List (List ℕ)). length xs) are in
    let inside : x < length (k ∷ ks) = omega arith in
    let here : name ≡ (get_or (k ∷ ks) x k).now = sym e ∙ (ap (λ (xs : List (List ℕ)). get_or xs x []) (sym are) ∙ bytes_at (k ∷ ks) x k [] inside) in
    both_ways (list_any (λ (y : Bor (List ℕ)). bytes_eq name y.now) (k ∷ ks)) none
    (any_from (λ (y : Bor (List ℕ)). bytes_eq name y.now) (k ∷ ks) (get_or (k ∷ ks) x k) (Contains-get_or (k ∷ ks) x k inside)
    ((bytes_eq-Decides name (get_or (k ∷ ks) x k).now).1 here))
