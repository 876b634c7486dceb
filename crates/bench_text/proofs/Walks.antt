-- Loops over a list that test its elements, from the front.
use Rattle.std.proofs.Common.{◌≡◌, ◌<◌, ◌≤◌, ◌+◌, ℕ, zero, suc, Bool, true, false, cond, List, [], ◌∷◌, length, get_or, drop, refl, sym, ap, ◌∙◌, map, arith}
use Rattle.std.specs.Prelude.{Option, Some, None, find, option_map}
use Rattle.std.specs.List.{list_all}
use Rattle.std.proofs.lemmas.List.{at_drop_more, at_drop_all}
use Rattle.bench_text.proofs.Lists.{both_true}

module _ {A : Type 0} (p : A → Bool) where
  pub all_at : (xs : List A) (i : ℕ) (d : A) → list_all p xs ≡ true → i < length xs → p (get_or xs i d) ≡ true
  all_at [] i d h k = absurd (omega arith)
  all_at (x ∷ xs) zero d h k = (both_true (p x) (list_all p xs) h).0
  all_at (x ∷ xs) (suc i) d h k = all_at xs i d (both_true (p x) (list_all p xs) h).1 (omega arith)

  pub find-ends : (xs : List A) (i : ℕ) (v : Option A) → length xs ≤ i → find p (drop i xs) ≡ v → None ≡ v
  find-ends xs i v h e = sym (at_drop_all (find p) xs i h) ∙ e

  module _ (xs : List A) (i : ℕ) (d : A) (h : i < length xs) where
    pub find-here : (v : Option A) → find p (drop i xs) ≡ v → p (get_or xs i d) ≡ true → Some (get_or xs i d) ≡ v
    find-here v e t = sym (at_drop_more (find p) xs i d h ∙ ap (λ b. cond b (Some (get_or xs i d)) (find p (drop (i + 1) xs))) t) ∙ e

find-map_cons : {A B : Type 0} (f : A → B) (x : A) (b : Bool) (o : Option B) (p : Option A) → o ≡ option_map f p → cond b (Some (f x)) o ≡ option_map f (cond b (Some x) p)
find-map_cons f x true o p e = refl
find-map_cons f x false o p e = e

pub find-map : {A B : Type 0} (p : B → Bool) (f : A → B) (xs : List A) → find p (map f xs) ≡ option_map f (find (λ x. p (f x)) xs)
find-map p f [] = refl
find-map p f (x ∷ xs) = find-map_cons f x (p (f x)) (find p (map f xs)) (find (λ y. p (f y)) xs) (find-map p f xs)
