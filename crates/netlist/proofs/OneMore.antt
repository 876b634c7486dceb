-- One more gate is placed behind the others.
use Rattle.std.proofs.Common.{◌≡◌, ℕ, ◌+◌, ◌<◌, List, [], ◌∷◌, ◌++◌, length, get_or, set, sym, ◌∙◌, ap, subst, arith}
use Rattle.std.specs.List.{Contains}
use Rattle.std.proofs.lemmas.List.{length-set, length_push, get_or-set_same, get_or-set_other}
use Rattle.netlist.specs.declared.order.Placing.{Placing}
use Rattle.statement.specs.Netlists.{Definition, Netlist, gates}
use Rattle.netlist.specs.Conditions.{IsNumbered}
use Rattle.netlist.specs.inner.Placed.{zeros, IsPlaced}
use Rattle.netlist.specs.inner.Sorting.{HasRoom, Places}
use Rattle.netlist.proofs.Placed.{zeros_set, placed_more}

module _ (p q : Placing) (z : ℕ) (within : z < length p.ranks.items) (none : get_or p.ranks.items z 0 ≡ 0) (places : Places z p q) where
  pub rank_here : get_or q.ranks.items z 0 ≡ length p.order.items + 2
  rank_here = ap (λ (xs : List ℕ). get_or xs z 0) places.ranks ∙ get_or-set_same p.ranks.items z (length p.order.items + 2) 0 within

  pub rank_there : (y : ℕ) → (y ≡ z → ⊥) → get_or q.ranks.items y 0 ≡ get_or p.ranks.items y 0
  rank_there y differs = ap (λ (xs : List ℕ). get_or xs y 0) places.ranks ∙ get_or-set_other p.ranks.items z y (length p.order.items + 2) 0 differs

  pub order_longer : length q.order.items ≡ length p.order.items + 1
  order_longer = ap (λ (xs : List ℕ). length xs) places.order ∙ length_push p.order.items z

  pub same_size : length q.ranks.items ≡ length p.ranks.items
  same_size = ap (λ (xs : List ℕ). length xs) places.ranks ∙ length-set p.ranks.items z (length p.order.items + 2)

  pub same_count : (y : ℕ) → get_or q.counts.items y 0 ≡ get_or p.counts.items y 0
  same_count y = ap (λ (xs : List ℕ). get_or xs y 0) places.counts

  -- what isn't placed now wasn't before, and is another signal
  pub was_unplaced : (y : ℕ) → get_or q.ranks.items y 0 ≡ 0 → (y ≡ z → ⊥) × (get_or p.ranks.items y 0 ≡ 0)
  was_unplaced y e =
      let differs : y ≡ z → ⊥ = λ same. let w : get_or q.ranks.items y 0 ≡ get_or q.ranks.items z 0 = ap (λ i. get_or q.ranks.items i 0) same in let r = rank_here in omega arith in
      (differs, sym (rank_there y differs) ∙ e)

  pub room_placed : HasRoom p → HasRoom q
  room_placed room =
      let a = room.left in
      let b = room.small in
      let c = room.counts in
      let longer = order_longer in
      let size = same_size in
      let d : length q.counts.items ≡ length p.counts.items = ap (λ (xs : List ℕ). length xs) places.counts in
      let e : zeros q.ranks.items ≡ zeros (set p.ranks.items z (length p.order.items + 2)) = ap zeros places.ranks in
      let f = zeros_set p.ranks.items z (length p.order.items + 2) within none (omega arith) in
      record { counts = omega arith; left = omega arith; small = omega arith }

  -- where it is a gate whose pins are placed
  pub placed_with : (n : Netlist) → IsNumbered n → IsPlaced n p.order.items p.ranks.items → (d : Definition) → Contains (gates n) d → d.id ≡ z
      → ((x : ℕ) → Contains d.pins x → 0 < get_or p.ranks.items x 0) → IsPlaced n q.order.items q.ranks.items
  placed_with n numbered h d g id ready =
      let r : ℕ = length p.order.items + 2 in
      let still : get_or p.ranks.items d.id 0 ≡ 0 = ap (λ i. get_or p.ranks.items i 0) id ∙ none in
      let more : IsPlaced n (p.order.items ++ d.id ∷ []) (set p.ranks.items d.id r) = placed_more n numbered p.order.items p.ranks.items d h g still ready in
      let base : IsPlaced n (p.order.items ++ z ∷ []) (set p.ranks.items z r) = subst (λ i. IsPlaced n (p.order.items ++ i ∷ []) (set p.ranks.items i r)) id more in
      subst (λ (o : List ℕ). IsPlaced n o q.ranks.items) (sym places.order)
      (subst (λ (s : List ℕ). IsPlaced n (p.order.items ++ z ∷ []) s) (sym places.ranks) base)
