-- A loop over a list, by place.
use Rattle.std.proofs.Common.{◌≡◌, ℕ, ◌+◌, ◌≤◌, List, [], ◌∷◌, ◌++◌, take, length, sym, ap, ◌∙◌, append_assoc}
use Rattle.std.specs.Prelude.{Some, slice_get}
use Rattle.std.specs.List.{All, flat_map}
use Rattle.std.proofs.lemmas.List.{take_more, take_all, flat_map_more}
use Rattle.std.proofs.lemmas.List.Elements.{All-same, All-push}
use Rattle.std.proofs.lemmas.Option.{get_or_from_slice_get, slice_get_within}

-- one more element
pub take_at : {X : Type 0} (xs : List X) (i : ℕ) (x : X) → slice_get xs i ≡ Some x → take (i + 1) xs ≡ take i xs ++ x ∷ []
take_at xs i x h =
    take_more xs i x (slice_get_within xs i x h) ∙ ap (λ y. take i xs ++ y ∷ []) (get_or_from_slice_get xs i x x h)

pub all_at_end : {X : Type 0} (P : X → Type 0) (xs : List X) (i : ℕ) → length xs ≤ i → All P (take i xs) → All P xs
all_at_end P xs i h a = All-same P xs (take i xs) (sym (take_all i xs h)) a

pub all_more : {X : Type 0} (P : X → Type 0) (xs : List X) (i : ℕ) (x : X) → slice_get xs i ≡ Some x → All P (take i xs) → P x → All P (take (i + 1) xs)
all_more P xs i x h a p = All-same P (take (i + 1) xs) (take i xs ++ x ∷ []) (take_at xs i x h) (All-push P (take i xs) x a p)

-- what is made of each element, one behind the other
pub flat_more : {X : Type 0} (f : X → List ℕ) (xs : List X) (i : ℕ) (x : X) (before so_far after : List ℕ) → slice_get xs i ≡ Some x
    → so_far ≡ before ++ flat_map f (take i xs) → after ≡ so_far ++ f x → after ≡ before ++ flat_map f (take (i + 1) xs)
flat_more f xs i x before so_far after h e a =
    a ∙ ap (λ l. l ++ f x) e ∙ flat_map_more f before (take i xs) x ∙ ap (λ l. before ++ flat_map f l) (sym (take_at xs i x h))

-- one list behind another
pub behind : {X : Type 0} (before so_far after x y : List X) → so_far ≡ before ++ x → after ≡ so_far ++ y → after ≡ before ++ (x ++ y)
behind before so_far after x y e a = a ∙ ap (λ t. t ++ y) e ∙ append_assoc before x y
