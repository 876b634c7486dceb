-- A text is one order at most, or is refused for one cause.
use Rattle.std.proofs.Common.{◌≡◌, ◌≢◌, ◌<◌, ◌≤◌, ◌+◌, ◌++◌, ℕ, suc, zero, Bool, true, false, List, [], ◌∷◌, length, map, get_or, refl, sym, ◌∙◌, ap, ap₂, subst, arith, length-append}
use Rattle.std.specs.Prelude.{slice_index_or}
use Rattle.std.specs.List.{All, AllPairs, Contains}
use Rattle.std.proofs.lemmas.Bool.{both_ways}
use Rattle.std.proofs.lemmas.List.{get_or_append_left, get_or_at}
use Rattle.std.proofs.lemmas.List.Elements.{All-contains, All-cons, All-head, All-nil, All-tail}
use Rattle.plain_text.specs.Limits.{most_chains}
use Rattle.statement.specs.Benches.{Text}
use Rattle.statement.specs.Netlists.{Netlist, name_of}
use Rattle.netlist.specs.Conditions.{IsSound}
use Rattle.netlist.proofs.Lists.{all_left, all_right}
use Rattle.scan_insert.specs.Scanned.{cell_ids}
use Rattle.cell_order.specs.Orders.{AreAllCells, AreCells, AreEven, IsLeftOut, IsOrder, IsRefused, IsStranger, IsTwice, chains_in, is_order_text, names_in}
use Rattle.cell_order.specs.declared.refusal.OrderRefusal.{OrderRefusal}
use Rattle.cell_order.specs.declared.refusal.OrderRefusal.TheVariants.{NotOrder, NotCell, Twice, LeftOut, TooMany, Uneven}
use Rattle.cell_order.proofs.NameLemmas.{same_cells}

-- ---- the first that is in the way stands at one place

head_same : {A : Type 0} (x y : A) (xs ys : List A) → x ∷ xs ≡ y ∷ ys → x ≡ y
head_same x y xs ys e = cc

tail_same : {A : Type 0} (x y : A) (xs ys : List A) → x ∷ xs ≡ y ∷ ys → xs ≡ ys
tail_same x y xs ys e = cc

-- what is short of an element that breaks Q, Q holding of shorter lists where it holds of longer ones
place_once : {A : Type 0} (Q : List A → Type 0) → ((a b : List A) → Q (a ++ b) → Q a) → (before others behind after : List A) (x y : A) → before ++ x ∷ behind ≡ others ++ y ∷ after
    → Q before → ¬ Q (before ++ x ∷ []) → Q others → ¬ Q (others ++ y ∷ []) → length before ≡ length others
place_once Q short [] [] behind after x y e p out q gone = refl
place_once Q short [] (z ∷ others) behind after x y e p out q gone =
    absurd (out (subst (λ w. Q (w ∷ [])) (sym (head_same x z behind (others ++ y ∷ after) e)) (short (z ∷ []) others q)))
place_once Q short (w ∷ before) [] behind after x y e p out q gone =
    absurd (gone (subst (λ z. Q (z ∷ [])) (head_same w y (before ++ x ∷ behind) after e) (short (w ∷ []) before p)))
place_once {A} Q short (w ∷ before) (z ∷ others) behind after x y e p out q gone =
    let same = head_same w z (before ++ x ∷ behind) (others ++ y ∷ after) e in
    ap suc (place_once (λ (l : List A). Q (w ∷ l)) (λ a b h. short (w ∷ a) b h) before others behind after x y (tail_same w z (before ++ x ∷ behind) (others ++ y ∷ after) e) p out
    (subst (λ (v : A). Q (v ∷ others)) (sym same) q) (λ h. gone (subst (λ (v : A). Q (v ∷ others ++ y ∷ [])) same h)))

-- ---- distinct elements

distinct_short : (a b : List ℕ) → AllPairs (λ x y. x ≢ y) (a ++ b) → AllPairs (λ x y. x ≢ y) a
distinct_short a b h i j d l m same =
    let size = length-append a b in
    h i j d l (omega (arith, m, size)) (get_or_append_left a b d i (omega (arith, l, m)) ∙ (same ∙ sym (get_or_append_left a b d j m)))

not_again : (before : List ℕ) (x : ℕ) (behind : List ℕ) → Contains before x → AllPairs (λ y z. y ≢ z) (before ++ x ∷ behind) → ⊥
not_again before x behind c h =
    let size = length-append before (x ∷ behind) in
    h c.0 (length before) x c.1 (omega (arith, size))
    (get_or_append_left before (x ∷ behind) x c.0 c.1 ∙ (c.2 ∙ sym (get_or_at before x behind x (length before) refl)))

-- ---- names of cells

abbrev IsCellName : Netlist → Text → Type 0
IsCellName n name = (x : ℕ) × Contains (cell_ids n) x × (name_of n x ≡ name)

last_too : {A : Type 0} (P : A → Type 0) (before : List A) (x : A) (behind : List A) → All P (before ++ x ∷ behind) → P x
last_too P before x behind h = All-head P x behind (all_right P before (x ∷ behind) h)

module _ (n : Netlist) (sound : IsSound n) (text : Text) where
  abbrev names : List Text
  names = names_in text

  cell_names : (order : List ℕ) → All (Contains (cell_ids n)) order → All (IsCellName n) (map (name_of n) order)
  cell_names [] h = All-nil (IsCellName n)
  cell_names (x ∷ order) h =
      All-cons (IsCellName n) (name_of n x) (map (name_of n) order) (x, All-head (Contains (cell_ids n)) x order h, refl)
      (cell_names order (All-tail (Contains (cell_ids n)) x order h))

  are_names : (ts : List Text) (order : List ℕ) → AreCells n ts order → All (IsCellName n) ts
  are_names ts order are = subst (All (IsCellName n)) are.named (cell_names order are.cells)

  no_name : (before : List Text) (name : Text) (behind : List Text) → All (λ x. name_of n x ≢ name) (cell_ids n) → All (IsCellName n) (before ++ name ∷ behind) → ⊥
  no_name before name behind none h =
      let is = last_too (IsCellName n) before name behind h in
      All-contains (λ x. name_of n x ≢ name) (cell_ids n) is.0 none is.1 is.2

  strange_once : (i j : ℕ) → IsStranger n names i → IsStranger n names j → i ≡ j
  strange_once i j p q =
      let same = place_once (All (IsCellName n)) (all_left (IsCellName n)) p.before q.before p.behind q.behind p.name q.name (sym p.names_are ∙ q.names_are)
      (are_names p.before p.order p.are) (no_name p.before p.name [] p.stranger) (are_names q.before q.order q.are) (no_name q.before q.name [] q.stranger) in
      p.number_is ∙ (ap (λ k. k + 1) same ∙ sym q.number_is)

  strange_apart : (i : ℕ) (order : List ℕ) → IsStranger n names i → AreCells n names order → ⊥
  strange_apart i order p are = no_name p.before p.name p.behind p.stranger (subst (All (IsCellName n)) p.names_are (are_names names order are))

  order_once : (a b : List ℕ) → AreCells n names a → AreCells n names b → a ≡ b
  order_once a b are also = same_cells n sound a b are.cells also.cells (are.named ∙ sym also.named)

  -- ---- cells

  twice_once : (order : List ℕ) (i j : ℕ) → IsTwice order i → IsTwice order j → i ≡ j
  twice_once order i j p q =
      let same = place_once (AllPairs (λ x y. x ≢ y)) distinct_short p.before q.before p.behind q.behind p.cell q.cell (sym p.order_is ∙ q.order_is)
      p.once (not_again p.before p.cell [] p.twice) q.once (not_again q.before q.cell [] q.twice) in
      p.number_is ∙ (ap (λ k. k + 1) same ∙ sym q.number_is)

  twice_apart : (order : List ℕ) (i : ℕ) → IsTwice order i → AllPairs (λ x y. x ≢ y) order → ⊥
  twice_apart order i p once = not_again p.before p.cell p.behind p.twice (subst (AllPairs (λ x y. x ≢ y)) p.order_is once)

  left_once : (order : List ℕ) (i j : ℕ) → IsLeftOut n order i → IsLeftOut n order j → i ≡ j
  left_once order i j p q =
      let same = place_once (All (Contains order)) (all_left (Contains order)) p.before q.before p.behind q.behind p.cell q.cell (sym p.cells_are ∙ q.cells_are)
      p.placed (λ h. p.left (last_too (Contains order) p.before p.cell [] h)) q.placed (λ h. q.left (last_too (Contains order) q.before q.cell [] h)) in
      p.number_is ∙ (ap (λ k. k + 1) same ∙ sym q.number_is)

  left_apart : (order : List ℕ) (i : ℕ) → IsLeftOut n order i → All (Contains order) (cell_ids n) → ⊥
  left_apart order i p all = p.left (last_too (Contains order) p.before p.cell p.behind (subst (All (Contains order)) p.cells_are all))

  -- ---- each cause by itself

  by_form : (s : OrderRefusal) → is_order_text text ≡ false → IsRefused n text s → NotOrder ≡ s
  by_form NotOrder off h = refl
  by_form (NotCell j) off h = absurd (both_ways (is_order_text text) off h.0)
  by_form (Twice j) off h = absurd (both_ways (is_order_text text) off h.0)
  by_form (LeftOut j) off h = absurd (both_ways (is_order_text text) off h.0)
  by_form TooMany off h = absurd (both_ways (is_order_text text) off h.0)
  by_form Uneven off h = absurd (both_ways (is_order_text text) off h.0)

  by_stranger : (s : OrderRefusal) (i : ℕ) → is_order_text text ≡ true → IsStranger n names i → IsRefused n text s → NotCell i ≡ s
  by_stranger NotOrder i on p h = absurd (both_ways (is_order_text text) h on)
  by_stranger (NotCell j) i on p h = ap (λ k. NotCell k) (strange_once i j p h.1)
  by_stranger (Twice j) i on p h = absurd (strange_apart i h.1.0 p h.1.1)
  by_stranger (LeftOut j) i on p h = absurd (strange_apart i h.1.0 p h.1.1)
  by_stranger TooMany i on p h = absurd (strange_apart i h.1 p h.2.are)
  by_stranger Uneven i on p h = absurd (strange_apart i h.1 p h.2.are)

  module _ (order : List ℕ) (on : is_order_text text ≡ true) (are : AreCells n names order) where
    twice_here : (other : List ℕ) (j : ℕ) → AreCells n names other → IsTwice other j → IsTwice order j
    twice_here other j also t = subst (λ (o : List ℕ). IsTwice o j) (order_once other order also are) t

    once_here : (other : List ℕ) → AreCells n names other → AllPairs (λ x y. x ≢ y) other → AllPairs (λ x y. x ≢ y) order
    once_here other also h = subst (AllPairs (λ x y. x ≢ y)) (order_once other order also are) h

    left_here : (other : List ℕ) (j : ℕ) → AreCells n names other → IsLeftOut n other j → IsLeftOut n order j
    left_here other j also l = subst (λ (o : List ℕ). IsLeftOut n o j) (order_once other order also are) l

    all_here : (other : List ℕ) → AreCells n names other → All (Contains other) (cell_ids n) → All (Contains order) (cell_ids n)
    all_here other also h = subst (λ (o : List ℕ). All (Contains o) (cell_ids n)) (order_once other order also are) h

    by_twice : (s : OrderRefusal) (i : ℕ) → IsTwice order i → IsRefused n text s → Twice i ≡ s
    by_twice NotOrder i t h = absurd (both_ways (is_order_text text) h on)
    by_twice (NotCell j) i t h = absurd (strange_apart j order h.1 are)
    by_twice (Twice j) i t h = ap (λ k. Twice k) (twice_once order i j t (twice_here h.1.0 j h.1.1 h.1.2))
    by_twice (LeftOut j) i t h = absurd (twice_apart order i t (once_here h.1.0 h.1.1 h.1.2))
    by_twice TooMany i t h = absurd (twice_apart order i t (once_here h.1 h.2.are h.2.once))
    by_twice Uneven i t h = absurd (twice_apart order i t (once_here h.1 h.2.are h.2.once))

    module _ (once : AllPairs (λ x y. x ≢ y) order) where
      by_left : (s : OrderRefusal) (i : ℕ) → IsLeftOut n order i → IsRefused n text s → LeftOut i ≡ s
      by_left NotOrder i l h = absurd (both_ways (is_order_text text) h on)
      by_left (NotCell j) i l h = absurd (strange_apart j order h.1 are)
      by_left (Twice j) i l h = absurd (twice_apart order j (twice_here h.1.0 j h.1.1 h.1.2) once)
      by_left (LeftOut j) i l h = ap (λ k. LeftOut k) (left_once order i j l (left_here h.1.0 j h.1.1 h.1.3))
      by_left TooMany i l h = absurd (left_apart order i l (all_here h.1 h.2.are h.2.all))
      by_left Uneven i l h = absurd (left_apart order i l (all_here h.1 h.2.are h.2.all))

      module _ (all : All (Contains order) (cell_ids n)) where
        by_many : (s : OrderRefusal) → most_chains < length (chains_in text) → IsRefused n text s → TooMany ≡ s
        by_many NotOrder m h = absurd (both_ways (is_order_text text) h on)
        by_many (NotCell j) m h = absurd (strange_apart j order h.1 are)
        by_many (Twice j) m h = absurd (twice_apart order j (twice_here h.1.0 j h.1.1 h.1.2) once)
        by_many (LeftOut j) m h = absurd (left_apart order j (left_here h.1.0 j h.1.1 h.1.3) all)
        by_many TooMany m h = refl
        by_many Uneven m h = absurd (omega (arith, m, h.3))

        by_uneven : (s : OrderRefusal) → length (chains_in text) ≤ most_chains → IsRefused n text s → Uneven ≡ s
        by_uneven NotOrder m h = absurd (both_ways (is_order_text text) h on)
        by_uneven (NotCell j) m h = absurd (strange_apart j order h.1 are)
        by_uneven (Twice j) m h = absurd (twice_apart order j (twice_here h.1.0 j h.1.1 h.1.2) once)
        by_uneven (LeftOut j) m h = absurd (left_apart order j (left_here h.1.0 j h.1.1 h.1.3) all)
        by_uneven TooMany m h = absurd (omega (arith, m, h.3))
        by_uneven Uneven m h = refl

        no_cause : (r : OrderRefusal) → length (chains_in text) ≤ most_chains → AreEven text order → IsRefused n text r → ⊥
        no_cause NotOrder m even h = both_ways (is_order_text text) h on
        no_cause (NotCell j) m even h = strange_apart j order h.1 are
        no_cause (Twice j) m even h = twice_apart order j (twice_here h.1.0 j h.1.1 h.1.2) once
        no_cause (LeftOut j) m even h = left_apart order j (left_here h.1.0 j h.1.1 h.1.3) all
        no_cause TooMany m even h = omega (arith, m, h.3)
        no_cause Uneven m even h = h.4 (subst (AreEven text) (order_once order h.1 are h.2.are) even)

  -- ---- together

  pub one_cause : (r s : OrderRefusal) → IsRefused n text r → IsRefused n text s → r ≡ s
  one_cause NotOrder s h g = by_form s h g
  one_cause (NotCell i) s h g = by_stranger s i h.0 h.1 g
  one_cause (Twice i) s h g = by_twice h.1.0 h.0 h.1.1 s i h.1.2 g
  one_cause (LeftOut i) s h g = by_left h.1.0 h.0 h.1.1 h.1.2 s i h.1.3 g
  one_cause TooMany s h g = by_many h.1 h.0 h.2.are h.2.once h.2.all s h.3 g
  one_cause Uneven s h g = by_uneven h.1 h.0 h.2.are h.2.once h.2.all s h.3 g

  pub order_or_cause : (order : List ℕ) (chains : ℕ) (r : OrderRefusal) → IsOrder n text order chains → IsRefused n text r → ⊥
  order_or_cause order chains r is h = no_cause order is.form is.are.are is.are.once is.are.all r is.few is.even h

  pub one_order : (a b : List ℕ) (i j : ℕ) → IsOrder n text a i → IsOrder n text b j → a ≡ b
  one_order a b i j is also = order_once a b is.are.are also.are.are
