-- Elements that are put behind a list one after the other.
use Rattle.std.proofs.Common.{◌≡◌, ℕ, ◌+◌, List, [], ◌∷◌, ◌++◌, take, sym, ap, ◌∙◌, append_assoc}
use Rattle.std.specs.Prelude.{Some, slice_get}
use Rattle.std.proofs.lemmas.List.{take_more}
use Rattle.std.proofs.lemmas.Option.{get_or_from_slice_get, slice_get_within}

take_at : {X : Type 0} (xs : List X) (i : ℕ) (x : X) → slice_get xs i ≡ Some x → take (i + 1) xs ≡ take i xs ++ x ∷ []
take_at xs i x h =
    take_more xs i x (slice_get_within xs i x h) ∙ ap (λ y. take i xs ++ y ∷ []) (get_or_from_slice_get xs i x x h)

pub append_more : {X : Type 0} (xs : List X) (i : ℕ) (x : X) (before so_far after : List X) → slice_get xs i ≡ Some x
    → so_far ≡ before ++ take i xs → after ≡ so_far ++ x ∷ [] → after ≡ before ++ take (i + 1) xs
append_more xs i x before so_far after h e a =
    a ∙ ap (λ l. l ++ x ∷ []) e ∙ append_assoc before (take i xs) (x ∷ []) ∙ ap (λ l. before ++ l) (sym (take_at xs i x h))
