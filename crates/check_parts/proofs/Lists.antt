-- Two lists, place by place.
use Rattle.std.proofs.Common.{◌≡◌, ℕ, zero, suc, ◌+◌, ◌<◌, ◌≤◌, ◌∙◌, List, [], ◌∷◌, ◌++◌, length, get_or, take, Some, ap, subst, sym}
use Rattle.std.specs.List.{AllZip, slice_get}
use Rattle.std.proofs.lemmas.List.{take_all, take_more}
use Rattle.std.proofs.lemmas.Option.{get_or_from_slice_get, slice_get_within}
use Rattle.std.proofs.lemmas.Slice.Zip.{AllZip-long, all_zipped_more}

pub same_some : {X : Type 0} (x y : X) → Some x ≡ Some y → x ≡ y
same_some x y e = cc

-- what holds of two lists, place by place, holds where one is read
pub zip_at : {A B : Type 0} (R : A → B → Type 0) (xs : List A) (ys : List B) (k : ℕ) (x : A) (d : B) → AllZip R xs ys → slice_get xs k ≡ Some x → R x (get_or ys k d)
zip_at R [] [] k x d all at = cc
zip_at R [] (y ∷ ys) k x d all at = absurd all
zip_at R (a ∷ xs) [] k x d all at = absurd all
zip_at R (a ∷ xs) (y ∷ ys) zero x d all at = let same : a ≡ x = same_some a x at in subst (λ b. R b y) same all.0
zip_at R (a ∷ xs) (y ∷ ys) (suc k) x d all at = zip_at R xs ys k x d all.1 at

-- the other list is as long
pub zip_long : {A B : Type 0} (R : A → B → Type 0) (xs : List A) (ys : List B) (k : ℕ) → AllZip R xs ys → k < length xs → k < length ys
zip_long R xs ys k all lt = subst (λ (n : ℕ). k < n) (sym (AllZip-long R xs ys all)) lt

-- one place more, and all of them
module _ {A B : Type 0} (R : A → B → Type 0) (xs : List A) (k : ℕ) where
  pub zip_more : (x : A) (y : B) (old new : List B) → slice_get xs k ≡ Some x → R x y → new ≡ old ++ y ∷ [] → AllZip R (take k xs) old → AllZip R (take (k + 1) xs) new
  zip_more x y old new at is added before =
      let lt = slice_get_within xs k x at in
      subst (λ (zs : List B). AllZip R (take (k + 1) xs) zs) (sym added)
      (subst (λ (ws : List A). AllZip R ws (old ++ y ∷ [])) (sym (take_more xs k x lt ∙ ap (λ (a : A). take k xs ++ a ∷ []) (get_or_from_slice_get xs k x x at)))
      (all_zipped_more R (take k xs) old x y before is))

  pub zip_all : (ys : List B) → length xs ≤ k → AllZip R (take k xs) ys → AllZip R xs ys
  zip_all ys end is = subst (λ (ws : List A). AllZip R ws ys) (take_all k xs end) is
