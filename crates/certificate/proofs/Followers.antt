-- Lists whose texts stand one behind the other: where one list's text begins another's, the list begins the other.
use Rattle.std.proofs.Common.{◌≡◌, List, [], ◌∷◌, ◌++◌, ℕ, refl, sym, ◌∙◌, ap, subst, append_assoc}
use Rattle.std.specs.List.{All, flat_map}
use Rattle.std.proofs.lemmas.List.{append-nil}
use Rattle.std.proofs.lemmas.List.Elements.{All-head, All-tail}

-- the list goes on with others, whose text is the rest
pub record GoesOn {X : Type 0} (f : X → List ℕ) (V : X → Type 0) (xs ys : List X) (rest : List ℕ) : Type 0 where
  pub others : List X
  pub valid : All V others
  pub list : ys ≡ xs ++ others
  pub text : rest ≡ flat_map f others

-- texts that are never nothing, and that are told apart where what comes behind them is an end
module _ {X : Type 0} (f : X → List ℕ) (V : X → Type 0) (End : List ℕ → Type 0)
    (some : (x : X) (r : List ℕ) → f x ++ r ≡ [] → ⊥) (nothing : End []) (ends : (x : X) (r : List ℕ) → End (f x ++ r))
    (same : (x y : X) (r s : List ℕ) → V x → V y → End r → End s → f x ++ r ≡ f y ++ s → (x ≡ y) × (r ≡ s)) where
  pub all_end : (xs : List X) → End (flat_map f xs)
  all_end [] = nothing
  all_end (x ∷ xs) = ends x (flat_map f xs)

  rest_ends : (xs : List X) (rest : List ℕ) → End rest → End (flat_map f xs ++ rest)
  rest_ends [] rest end = end
  rest_ends (x ∷ xs) rest end = subst End (sym (append_assoc (f x) (flat_map f xs) rest)) (ends x (flat_map f xs ++ rest))

  pub goes_on : (xs ys : List X) (rest : List ℕ) → All V xs → All V ys → End rest → flat_map f xs ++ rest ≡ flat_map f ys → GoesOn f V xs ys rest
  goes_on [] ys rest p q end e = record { others = ys; valid = q; list = refl; text = e }
  goes_on (x ∷ xs) [] rest p q end e = absurd (some x (flat_map f xs ++ rest) (sym (append_assoc (f x) (flat_map f xs) rest) ∙ e))
  goes_on (x ∷ xs) (y ∷ ys) rest p q end e =
      let m = same x y (flat_map f xs ++ rest) (flat_map f ys) (All-head V x xs p) (All-head V y ys q) (rest_ends xs rest end) (all_end ys)
      (sym (append_assoc (f x) (flat_map f xs) rest) ∙ e) in
      let w = goes_on xs ys rest (All-tail V x xs p) (All-tail V y ys q) end m.1 in
      record { others = w.others; valid = w.valid; list = ap (λ z. z ∷ ys) (sym m.0) ∙ ap (λ zs. x ∷ zs) w.list; text = w.text }

  nothing_more : (xs ys os : List X) → ys ≡ xs ++ os → [] ≡ flat_map f os → xs ≡ ys
  nothing_more xs ys [] list text = sym (list ∙ append-nil xs)
  nothing_more xs ys (o ∷ os) list text = absurd (some o (flat_map f os) (sym text))

  pub same_list : (xs ys : List X) → All V xs → All V ys → flat_map f xs ≡ flat_map f ys → xs ≡ ys
  same_list xs ys p q e =
      let w = goes_on xs ys [] p q nothing (append-nil (flat_map f xs) ∙ e) in
      nothing_more xs ys w.others w.list w.text
