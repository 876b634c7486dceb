-- Texts as they are written, a part at a time.
use Rattle.std.proofs.Common.{◌≡◌, ℕ, zero, suc, ◌+◌, List, [], ◌∷◌, ◌++◌, take, Some, refl, sym, ◌∙◌, ap, append_assoc, add-one}
use Rattle.std.proofs.lemmas.List.{append-nil}
use Rattle.std.specs.List.{flat_map, slice_get}
use Rattle.std.proofs.lemmas.Grind.{flat_map-append}
use Rattle.report.specs.Texts.{count_line}
use Rattle.report.specs.inner.Counts.{some_counts}

next_take : {X : Type 0} (xs : List X) (k : ℕ) (x : X) → slice_get xs k ≡ Some x → take (suc k) xs ≡ take k xs ++ x ∷ []
next_take [] k x e = cc
next_take (y ∷ ys) zero x e = let same : y ≡ x = cc in ap (λ z. z ∷ []) same
next_take (y ∷ ys) (suc k) x e = ap (λ zs. y ∷ zs) (next_take ys k x e)

-- one more of a list is written
pub next_written : {X : Type 0} (f : X → List ℕ) (xs : List X) (k : ℕ) (x : X) (old out new : List ℕ)
    → slice_get xs k ≡ Some x → out ≡ old ++ flat_map f (take k xs) → new ≡ out ++ f x → new ≡ old ++ flat_map f (take (k + 1) xs)
next_written f xs k x old out new e o n =
    let one : k + 1 ≡ suc k = add-one k in
    n ∙ (ap (λ t. t ++ f x) o ∙ (append_assoc old (flat_map f (take k xs)) (f x)
    ∙ ap (λ t. old ++ t) (ap (λ t. flat_map f (take k xs) ++ t) (sym (append-nil (f x)))
    ∙ (sym (flat_map-append f (take k xs) (x ∷ [])) ∙ ap (flat_map f) (sym (next_take xs k x e) ∙ ap (λ i. take i xs) (sym one))))))

counts_none : (ws : List (List ℕ)) → some_counts ws [] ≡ []
counts_none [] = refl
counts_none (w ∷ ws) = refl

next_count : (ws : List (List ℕ)) (cs : List ℕ) (k : ℕ) (w : List ℕ) (c : ℕ) → slice_get ws k ≡ Some w → slice_get cs k ≡ Some c
    → some_counts ws (take (suc k) cs) ≡ some_counts ws (take k cs) ++ count_line w c
next_count [] cs k w c p q = cc
next_count (v ∷ ws) [] k w c p q = cc
next_count (v ∷ ws) (d ∷ cs) zero w c p q =
    let e : v ≡ w = cc in
    let f : d ≡ c = cc in
    ap (λ t. count_line v d ++ t) (counts_none ws) ∙ append-nil (count_line v d) ∙ (ap (λ t. count_line t d) e ∙ ap (λ t. count_line w t) f)
next_count (v ∷ ws) (d ∷ cs) (suc k) w c p q =
    ap (λ t. count_line v d ++ t) (next_count ws cs k w c p q) ∙ sym (append_assoc (count_line v d) (some_counts ws (take k cs)) (count_line w c))

pub next_counts_written : (ws : List (List ℕ)) (cs : List ℕ) (k : ℕ) (w : List ℕ) (c : ℕ) (old out new : List ℕ)
    → slice_get ws k ≡ Some w → slice_get cs k ≡ Some c → out ≡ old ++ some_counts ws (take k cs) → new ≡ out ++ count_line w c
    → new ≡ old ++ some_counts ws (take (k + 1) cs)
next_counts_written ws cs k w c old out new p q o n =
    let one : k + 1 ≡ suc k = add-one k in
    n ∙ (ap (λ t. t ++ count_line w c) o ∙ (append_assoc old (some_counts ws (take k cs)) (count_line w c)
    ∙ ap (λ t. old ++ t) (sym (next_count ws cs k w c p q) ∙ ap (λ i. some_counts ws (take i cs)) (sym one))))

-- eight parts written one behind the other
pub eight_parts : (old a b c d e f g h x y z u v w m n : List ℕ)
    → x ≡ old ++ a → y ≡ x ++ b → z ≡ y ++ c → u ≡ z ++ d → v ≡ u ++ e → w ≡ v ++ f → m ≡ w ++ g → n ≡ m ++ h
    → n ≡ old ++ (a ++ (b ++ (c ++ (d ++ (e ++ (f ++ (g ++ h)))))))
eight_parts old a b c d e f g h x y z u v w m n p q r s t k l i =
    let whole : n ≡ (((((((old ++ a) ++ b) ++ c) ++ d) ++ e) ++ f) ++ g) ++ h = cc in
    whole ∙ simp append_assoc
