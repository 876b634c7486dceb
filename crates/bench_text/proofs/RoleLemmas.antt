-- The roles of names, as names are seen and defined.
use Rattle.std.proofs.Common.{◌≡◌, ◌≢◌, ◌⊎◌, inl, inr, ℕ, List, [], ◌∷◌, ◌++◌, length, set, sym, ap, ◌∙◌}
use Rattle.std.specs.Prelude.{Some, slice_get}
use Rattle.bench_text.specs.declared.numbered.Role.{Role}
use Rattle.bench_text.specs.declared.numbered.Role.TheVariants.{Read}
use Rattle.bench_text.proofs.Lists.{got_push, get_front, get_last, get_set, get_set_other, some_same, same_or_not}

-- the roles that say the places in a list of numbers, as inputs or as definitions
module _ (c : ℕ → Role) (unread : (k : ℕ) → c k ≢ Read) where
  abbrev pub HasRoles : List ℕ → List Role → Type 0
  HasRoles xs roles = (k n : ℕ) → slice_get xs k ≡ Some n → slice_get roles n ≡ Some (c k)

  abbrev pub HasPlaces : List ℕ → List Role → Type 0
  HasPlaces xs roles = (n k : ℕ) → slice_get roles n ≡ Some (c k) → slice_get xs k ≡ Some n

  apart : (roles : List Role) (m n k : ℕ) → slice_get roles m ≡ Some Read → slice_get roles n ≡ Some (c k) → n ≢ m
  apart roles m n k e f g = unread k (some_same (slice_get roles m) (c k) Read (ap (slice_get roles) (sym g) ∙ f) e)

  -- a name more
  pub roles-seen : (xs : List ℕ) (roles : List Role) → HasRoles xs roles → HasRoles xs (roles ++ Read ∷ [])
  roles-seen xs roles h k n e = get_front roles (Read ∷ []) n (c k) (h k n e)

  pub places-seen : (xs : List ℕ) (roles : List Role) → HasPlaces xs roles → HasPlaces xs (roles ++ Read ∷ [])
  places-seen xs roles h n k e = by (got_push roles Read n (c k) e)
    where
      by : (slice_get roles n ≡ Some (c k)) ⊎ ((n ≡ length roles) × (Read ≡ c k)) → slice_get xs k ≡ Some n
      by (inl f) = h n k f
      by (inr p) = absurd (unread k (sym p.1))

  module _ (xs : List ℕ) (roles : List Role) (m : ℕ) (free : slice_get roles m ≡ Some Read) where
    -- a name that goes last in the list
    pub roles-defined : HasRoles xs roles → HasRoles (xs ++ m ∷ []) (set roles m (c (length xs)))
    roles-defined h k n e = by (got_push xs m k n e)
      where
        by : (slice_get xs k ≡ Some n) ⊎ ((k ≡ length xs) × (m ≡ n)) → slice_get (set roles m (c (length xs))) n ≡ Some (c k)
        by (inl f) = get_set_other roles m n (c (length xs)) (apart roles m n k free (h k n f)) ∙ h k n f
        by (inr p) = ap (slice_get (set roles m (c (length xs)))) (sym p.1) ∙ get_set roles m (c (length xs)) Read free ∙ ap (λ i. Some (c i)) (sym p.0)

    pub places-defined : ((i j : ℕ) → c i ≡ c j → i ≡ j) → HasPlaces xs roles → HasPlaces (xs ++ m ∷ []) (set roles m (c (length xs)))
    places-defined inj h n k e = by (same_or_not n m)
      where
        by : (n ≡ m) ⊎ (n ≢ m) → slice_get (xs ++ m ∷ []) k ≡ Some n
        by (inl f) =
            let here : slice_get (set roles m (c (length xs))) m ≡ Some (c k) = ap (slice_get (set roles m (c (length xs)))) (sym f) ∙ e in
            let last : length xs ≡ k = inj (length xs) k (some_same _ _ _ (get_set roles m (c (length xs)) Read free) here) in
            ap (slice_get (xs ++ m ∷ [])) (sym last) ∙ get_last xs m ∙ ap Some (sym f)
        by (inr f) = get_front xs (m ∷ []) k n (h n k (sym (get_set_other roles m n (c (length xs)) f) ∙ e))

    -- a name that gets another role
    pub roles-other : (r : Role) → HasRoles xs roles → HasRoles xs (set roles m r)
    roles-other r h k n e = get_set_other roles m n r (apart roles m n k free (h k n e)) ∙ h k n e

    pub places-other : (r : Role) → ((k : ℕ) → r ≢ c k) → HasPlaces xs roles → HasPlaces xs (set roles m r)
    places-other r other h n k e = by (same_or_not n m)
      where
        by : (n ≡ m) ⊎ (n ≢ m) → slice_get xs k ≡ Some n
        by (inl f) = absurd (other k (some_same _ _ _ (get_set roles m r Read free) (ap (slice_get (set roles m r)) (sym f) ∙ e)))
        by (inr f) = h n k (sym (get_set_other roles m n r f) ∙ e)
