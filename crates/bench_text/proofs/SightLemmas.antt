-- Names in the order of first sight.
use denote.Ref.{Bor}
use Rattle.std.proofs.Common.{◌≡◌, ℕ, zero, suc, Bool, true, false, List, [], ◌∷◌, ◌++◌, refl, sym, ap, ◌∙◌}
use Rattle.std.specs.Prelude.{Some, slice_get, option_map, if◌then◌else◌}
use Rattle.std.specs.List.{list_any, IsDistinct, AllByRecursion}
use Rattle.std.specs.Str.{bytes_eq}
use Rattle.std.proofs.lemmas.List.{map_push}
use Rattle.std.proofs.lemmas.Option.{slice_get-map}
use Rattle.std.proofs.lemmas.Map.Keys.{IsDistinct-head, IsDistinct-tail}
use Rattle.bench_text.specs.inner.Stated.{names}
use Rattle.bench_text.specs.inner.NewNames.{AreDistinct, IsNumber}
use Rattle.bench_text.proofs.Lists.{list_any-names, same_name, name_same}

abbrev same : Bor (List ℕ) → Bor (List ℕ) → Bool
same x y = bytes_eq x.now y.now

none_named : (x : List ℕ) (ks : List (Bor (List ℕ))) → AllByRecursion (λ y. bytes_eq x y.now ≡ false) ks → (j : ℕ) → slice_get (names ks) j ≡ Some x → ⊥
none_named x [] h j e = cc
none_named x (k ∷ ks) h zero e = let s : x ≡ k.now = cc in let t : bytes_eq x k.now ≡ true = ap (λ y. bytes_eq x y) (sym s) ∙ name_same x in cc (h.0, t)
none_named x (k ∷ ks) h (suc j) e = none_named x ks h.1 j e

pub names-distinct : (ks : List (Bor (List ℕ))) → IsDistinct same ks → AreDistinct (names ks)
names-distinct [] h i j x e f = cc
names-distinct (k ∷ ks) h zero zero x e f = refl
names-distinct (k ∷ ks) h zero (suc j) x e f = let s : k.now ≡ x = cc in absurd (none_named k.now ks (IsDistinct-head same k ks h) j (f ∙ ap Some (sym s)))
names-distinct (k ∷ ks) h (suc i) zero x e f = let s : k.now ≡ x = cc in absurd (none_named k.now ks (IsDistinct-head same k ks h) i (e ∙ ap Some (sym s)))
names-distinct (k ∷ ks) h (suc i) (suc j) x e f = ap suc (names-distinct ks (IsDistinct-tail same k ks h) i j x e f)

names-if : (b : Bool) (ks : List (Bor (List ℕ))) (x : Bor (List ℕ)) → names (if b then ks else ks ++ x ∷ []) ≡ (if b then names ks else names ks ++ x.now ∷ [])
names-if true ks x = refl
names-if false ks x = map_push _ ks x

-- the number that the set gives
pub numbered : (x k : Bor (List ℕ)) (old new : List (Bor (List ℕ))) (n : ℕ) → new ≡ (if list_any (same x) old then old else old ++ x ∷ []) → slice_get new n ≡ Some k → same x k ≡ true → IsNumber (names old) (names new) x.now n
numbered x k old new n e f g = record {
  names = ap names e ∙ names-if _ old x ∙ ap (λ (b : Bool). if b then names old else names old ++ x.now ∷ []) (list_any-names (bytes_eq x.now) old);
  here = slice_get-map (λ (y : Bor (List ℕ)). y.now) new n ∙ ap (option_map (λ (y : Bor (List ℕ)). y.now)) f ∙ ap Some (sym (same_name x.now k.now g));
}
