-- Marks on signals, one by one.
use Rattle.std.proofs.Common.{◌≡◌, ◌≢◌, ℕ, suc, zero, ◌+◌, ◌<◌, Bool, true, false, List, [], ◌∷◌, ◌++◌, length, get_or, set, take, drop, replicate, refl, sym, ◌∙◌, ap, subst, inl, inr, take-append-drop, drop-cons, arith}
use Rattle.std.specs.List.{All, AllPairs, Contains}
use Rattle.std.proofs.lemmas.Bool.{both_ways, cases_eq}
use Rattle.std.proofs.lemmas.List.{get_or-set_same, get_or-set_other, length-take-le, take_more}
use Rattle.std.proofs.lemmas.List.Elements.{All-nil, All-push, All-weaker, Contains-append_left, Contains-push}
use Rattle.std.proofs.lemmas.List.Quantifiers.{all_pairs_push}
use Rattle.cell_order.specs.Orders.{IsTwice}
use Rattle.cell_order.specs.inner.Reads.{AreMarked, IsFirstUnmarked, is_marked}

none_there : (n x : ℕ) → is_marked (replicate n false) x ≡ false
none_there zero x = refl
none_there (suc n) zero = refl
none_there (suc n) (suc x) = none_there n x

pub none_marked : (n : ℕ) → AreMarked [] (replicate n false)
none_marked n = record {
  each = All-nil _;
  only = λ x h. absurd (both_ways (is_marked (replicate n false) x) (none_there n x) h);
}

module _ (marks : List Bool) (x : ℕ) (l : x < length marks) where
  marked_there : is_marked (set marks x true) x ≡ true
  marked_there = get_or-set_same marks x true false l

  still_marked : (y : ℕ) → is_marked marks y ≡ true → is_marked (set marks x true) y ≡ true
  still_marked y h = elim (cases_eq y x) [
    | inl e ↦ ap (is_marked (set marks x true)) e ∙ marked_there
    | inr ne ↦ get_or-set_other marks x y true false ne ∙ h
  ]

  pub marks_more : (done : List ℕ) → AreMarked done marks → AreMarked (done ++ x ∷ []) (set marks x true)
  marks_more done m = record {
    each = All-push (λ y. is_marked (set marks x true) y ≡ true) done x
        (All-weaker (λ y. is_marked marks y ≡ true) (λ y. is_marked (set marks x true) y ≡ true) still_marked done m.each) marked_there;
    only = λ y h. elim (cases_eq y x) [
      | inl e ↦ subst (λ z. Contains (done ++ x ∷ []) z) (sym e) (Contains-push done x)
      | inr ne ↦ Contains-append_left done (x ∷ []) y (m.only y (sym (get_or-set_other marks x y true false ne) ∙ h))
    ];
  }

-- ---- signals, one more

module _ (xs : List ℕ) (k x : ℕ) (l : k < length xs) (is : x ≡ get_or xs k x) where
  pub taken_more : take (k + 1) xs ≡ take k xs ++ x ∷ []
  taken_more = take_more xs k x l ∙ ap (λ y. take k xs ++ y ∷ []) (sym is)

  pub cut_here : xs ≡ take k xs ++ x ∷ drop (suc k) xs
  cut_here = sym (take-append-drop k xs) ∙ ap (λ r. take k xs ++ r) (drop-cons xs k x l ∙ ap (λ y. y ∷ drop (suc k) xs) (sym is))

  pub all_more : (P : ℕ → Type 0) → All P (take k xs) → P x → All P (take (k + 1) xs)
  all_more P h p = subst (All P) (sym taken_more) (All-push P (take k xs) x h p)

  pub below_here : (m : ℕ) → All (λ y. y < m) xs → x < m
  below_here m h = subst (λ y. y < m) (sym is) (h k x l)

  pub marked_more : (new : List Bool) → AreMarked (take k xs ++ x ∷ []) new → AreMarked (take (k + 1) xs) new
  marked_more new h = subst (λ done. AreMarked done new) (sym taken_more) h

  number_here : k + 1 ≡ length (take k xs) + 1
  number_here = ap (λ j. j + 1) (sym (length-take-le k xs (omega (arith, l))))

  pub stands_twice : (marks : List Bool) → AreMarked (take k xs) marks → AllPairs (λ y z. y ≢ z) (take k xs) → is_marked marks x ≡ true → IsTwice xs (k + 1)
  stands_twice marks m once here =
      record { before = take k xs; cell = x; behind = drop (suc k) xs; order_is = cut_here; once = once; twice = m.only x here; number_is = number_here }

  pub once_more : (marks : List Bool) → AreMarked (take k xs) marks → AllPairs (λ y z. y ≢ z) (take k xs) → is_marked marks x ≡ false → AllPairs (λ y z. y ≢ z) (take (k + 1) xs)
  once_more marks m once here = subst (AllPairs (λ y z. y ≢ z)) (sym taken_more)
      (all_pairs_push (λ y z. y ≢ z) (take k xs) x once
      (λ j d b same. both_ways (is_marked marks x) here (subst (λ y. is_marked marks y ≡ true) same (m.each j d b))))

  pub first_unmarked : (marks : List Bool) → All (λ y. is_marked marks y ≡ true) (take k xs) → is_marked marks x ≡ false → IsFirstUnmarked xs marks (k + 1)
  first_unmarked marks h here =
      record { before = take k xs; x = x; behind = drop (suc k) xs; xs_are = cut_here; each = h; unmarked = here; number_is = number_here }
