-- What one pin less that waits does to a sorting in the making.
use Rattle.std.proofs.Common.{◌≡◌, ℕ, ◌+◌, ◌-◌, ◌<◌, ◌≤◌, cond, List, [], ◌∷◌, ◌++◌, length, get_or, set, take, refl, sym, ◌∙◌, ap, subst, inl, inr, arith, eqb, append_assoc}
use Rattle.std.specs.List.{Contains}
use Rattle.std.proofs.lemmas.Bool.{cases_eq, eq-eqb, ne_eqb}
use Rattle.std.proofs.lemmas.List.{length-set, get_or-set_same, get_or-set_other, take_more}
use Rattle.statement.specs.declared.lines.Line.{Line}
use Rattle.statement.specs.declared.lines.Line.TheVariants.{Stem, Pin, Out}
use Rattle.netlist.specs.declared.order.Placing.{Placing}
use Rattle.netlist.specs.inner.Placed.{zeros, IsPlaced}
use Rattle.netlist.specs.inner.Sorting.{unvisited, pins_among, IsCounted, HasRoom, Places, RanksGrow, Counts}
use Rattle.netlist.proofs.Placed.{unplaced_gate}
use Rattle.netlist.proofs.OneMore.{rank_here, rank_there, order_longer, same_size, same_count, was_unplaced, room_placed, placed_with}
use Rattle.netlist.proofs.Waiting.{none_unvisited}

grow_none : (p : Placing) → RanksGrow p p
grow_none p = record { size = refl; order = omega arith; stay = λ y l. refl; new = λ y e. inl e }

-- no pin waits on no lines
pub counts_none : (p : Placing) → HasRoom p → Counts [] p p
counts_none p room = record { room = room; grow = grow_none p; counted = λ n v rest numbered h. h }

-- a line that is no pin
pub counts_other : (p : Placing) (line : Line) → HasRoom p → ((z k : ℕ) → line ≡ Pin z k → ⊥) → Counts (line ∷ []) p p
counts_other p (Pin z k) room other = absurd (other z k refl)
counts_other p (Stem z) room other = record {
  room = room;
  grow = grow_none p;
  counted = λ n v rest numbered h. record { placed = h.placed; visited_placed = h.visited_placed; counted = h.counted; waits = h.waits };
}
counts_other p (Out z) room other = record {
  room = room;
  grow = grow_none p;
  counted = λ n v rest numbered h. record { placed = h.placed; visited_placed = h.visited_placed; counted = h.counted; waits = h.waits };
}

grow_more : (p q r : Placing) → RanksGrow p q → RanksGrow q r → RanksGrow p r
grow_more p q r g h =
    let a = g.order in
    let b = h.order in
    record {
      size = h.size ∙ g.size;
      order = omega arith;
      stay = λ y l. let s = g.stay y l in h.stay y (omega arith) ∙ s;
      new = λ y e. elim (g.new y e) [
        | inl none ↦ elim (h.new y none) [
          | inl none' ↦ inl none'
          | inr late ↦ inr (omega arith)
        ]
        | inr late ↦ inr (let s = h.stay y (omega arith) in omega arith)
      ];
    }

pub counts_more : (ls ms : List Line) (p q r : Placing) → Counts ls p q → Counts ms q r → Counts (ls ++ ms) p r
counts_more ls ms p q r g h = record {
  room = h.room;
  grow = grow_more p q r g.grow h.grow;
  counted = λ n v rest numbered c. h.counted n v rest numbered (g.counted n v (ms ++ rest) numbered (subst (λ (l : List Line). IsCounted n v l p) (append_assoc ls ms rest) c));
}

-- the visit of one line more
pub counts_line : (readers : List Line) (i : ℕ) (line : Line) (p q r : Placing) → i < length readers → line ≡ get_or readers i line
    → Counts (take i readers) p q → Counts (line ∷ []) q r → Counts (take (i + 1) readers) p r
counts_line readers i line p q r l is g h =
    subst (λ (ls : List Line). Counts ls p r) (sym (take_more readers i line l ∙ ap (λ (x : Line). take i readers ++ x ∷ []) (sym is)))
    (counts_more (take i readers) (line ∷ []) p q r g h)

-- a pin of a gate that is placed, or of a cell
pub counts_placed : (p : Placing) (z k : ℕ) → HasRoom p → 0 < get_or p.ranks.items z 0 → Counts (Pin z k ∷ []) p p
counts_placed p z k room ranked = record {
  room = room;
  grow = grow_none p;
  counted = λ n v rest numbered h. record {
    placed = h.placed;
    visited_placed = h.visited_placed;
    counted = λ d g e.
        let was : get_or p.counts.items d.id 0 ≡ unvisited v d.pins + (cond {A = ℕ} (eqb z d.id) 1 0 + pins_among d.id rest) = h.counted d g e in
        let other : z ≡ d.id → ⊥ = λ s. let same : get_or p.ranks.items z 0 ≡ get_or p.ranks.items d.id 0 = ap (λ i. get_or p.ranks.items i 0) s in omega arith in
        let none : cond {A = ℕ} (eqb z d.id) 1 0 ≡ 0 = ap (λ b. cond {A = ℕ} b 1 0) (ne_eqb z d.id other) in
        omega arith;
    waits = h.waits;
  };
}

-- a pin of a gate with other pins that wait
pub counts_down : (p q : Placing) (z k : ℕ) → HasRoom p → z < length p.ranks.items → get_or p.ranks.items z 0 ≡ 0 → 1 < get_or p.counts.items z 0
    → q.order.items ≡ p.order.items → q.ranks.items ≡ p.ranks.items → q.counts.items ≡ set p.counts.items z (get_or p.counts.items z 0 - 1)
    → Counts (Pin z k ∷ []) p q
counts_down p q z k room within none many order ranks counts =
    let size = room.counts in
    let here : get_or q.counts.items z 0 ≡ get_or p.counts.items z 0 - 1 =
    ap (λ (xs : List ℕ). get_or xs z 0) counts ∙ get_or-set_same p.counts.items z (get_or p.counts.items z 0 - 1) 0 (omega arith) in
    let there : (y : ℕ) → (y ≡ z → ⊥) → get_or q.counts.items y 0 ≡ get_or p.counts.items y 0 =
    λ y differs. ap (λ (xs : List ℕ). get_or xs y 0) counts ∙ get_or-set_other p.counts.items z y (get_or p.counts.items z 0 - 1) 0 differs in
    let rank : (y : ℕ) → get_or q.ranks.items y 0 ≡ get_or p.ranks.items y 0 = λ y. ap (λ (xs : List ℕ). get_or xs y 0) ranks in
    record {
      room =
          let a = room.left in
          let b = room.small in
          let c : length q.counts.items ≡ length p.counts.items = ap (λ (xs : List ℕ). length xs) counts ∙ length-set p.counts.items z (get_or p.counts.items z 0 - 1) in
          let d : length q.ranks.items ≡ length p.ranks.items = ap (λ (xs : List ℕ). length xs) ranks in
          let e : zeros q.ranks.items ≡ zeros p.ranks.items = ap zeros ranks in
          let f : length q.order.items ≡ length p.order.items = ap (λ (xs : List ℕ). length xs) order in
          record { counts = omega arith; left = omega arith; small = omega arith };
      grow = record {
        size = ap (λ (xs : List ℕ). length xs) ranks;
        order = let f : length q.order.items ≡ length p.order.items = ap (λ (xs : List ℕ). length xs) order in omega arith;
        stay = λ y l. rank y;
        new = λ y e. inl (rank y ∙ e);
      };
      counted = λ n v rest numbered h. record {
        placed = subst (λ (o : List ℕ). IsPlaced n o q.ranks.items) (sym order) (subst (λ (r : List ℕ). IsPlaced n p.order.items r) (sym ranks) h.placed);
        visited_placed = λ x s. let was = h.visited_placed x s in let same = rank x in omega arith;
        counted = λ d g e.
            let was : get_or p.counts.items d.id 0 ≡ unvisited v d.pins + (cond {A = ℕ} (eqb z d.id) 1 0 + pins_among d.id rest) = h.counted d g (sym (rank d.id) ∙ e) in
            elim (cases_eq d.id z) [
              | inl same ↦
                  let one : cond {A = ℕ} (eqb z d.id) 1 0 ≡ 1 = ap (λ b. cond {A = ℕ} b 1 0) (eq-eqb z d.id (sym same)) in
                  let old : get_or p.counts.items d.id 0 ≡ get_or p.counts.items z 0 = ap (λ i. get_or p.counts.items i 0) same in
                  let new : get_or q.counts.items d.id 0 ≡ get_or q.counts.items z 0 = ap (λ i. get_or q.counts.items i 0) same in
                  omega arith
              | inr differs ↦
                  let zero' : cond {A = ℕ} (eqb z d.id) 1 0 ≡ 0 = ap (λ b. cond {A = ℕ} b 1 0) (ne_eqb z d.id (λ s. differs (sym s))) in
                  let new = there d.id differs in
                  omega arith
            ];
        waits = λ d g e.
            let was = h.waits d g (sym (rank d.id) ∙ e) in
            elim (cases_eq d.id z) [
              | inl same ↦
                  let new : get_or q.counts.items d.id 0 ≡ get_or q.counts.items z 0 = ap (λ i. get_or q.counts.items i 0) same in
                  omega arith
              | inr differs ↦ let new = there d.id differs in omega arith
            ];
      };
    }

-- the last pin of a gate, which is placed
pub counts_last : (p q : Placing) (z k : ℕ) → HasRoom p → z < length p.ranks.items → get_or p.ranks.items z 0 ≡ 0 → get_or p.counts.items z 0 ≤ 1
    → Places z p q → Counts (Pin z k ∷ []) p q
counts_last p q z k room within none few places =
    let longer = order_longer p q z within none places in
    let count = same_count p q z within none places in
    record {
      room = room_placed p q z within none places room;
      grow = record {
        size = same_size p q z within none places;
        order = omega arith;
        stay = λ y l. rank_there p q z within none places y (λ s. let w : get_or p.ranks.items y 0 ≡ get_or p.ranks.items z 0 = ap (λ i. get_or p.ranks.items i 0) s in omega arith);
        new = λ y e. elim (cases_eq y z) [
          | inl same ↦ inr (let w : get_or q.ranks.items y 0 ≡ get_or q.ranks.items z 0 = ap (λ i. get_or q.ranks.items i 0) same in let r = rank_here p q z within none places in omega arith)
          | inr differs ↦ inl (rank_there p q z within none places y differs ∙ e)
        ];
      };
      counted = λ n v rest numbered h.
          let w = unplaced_gate n numbered p.order.items p.ranks.items h.placed z within none in
          let d = w.0 in
          let id = w.2 in
          let still : get_or p.ranks.items d.id 0 ≡ 0 = ap (λ i. get_or p.ranks.items i 0) id ∙ none in
          let was : get_or p.counts.items d.id 0 ≡ unvisited v d.pins + (cond {A = ℕ} (eqb z d.id) 1 0 + pins_among d.id rest) = h.counted d w.1 still in
          let same : get_or p.counts.items d.id 0 ≡ get_or p.counts.items z 0 = ap (λ i. get_or p.counts.items i 0) id in
          let one : cond {A = ℕ} (eqb z d.id) 1 0 ≡ 1 = ap (λ b. cond {A = ℕ} b 1 0) (eq-eqb z d.id (sym id)) in
          let all : unvisited v d.pins ≡ 0 = omega arith in
          let ready : (x : ℕ) → Contains d.pins x → 0 < get_or p.ranks.items x 0 = λ x c. h.visited_placed x (none_unvisited v d.pins all x c) in
          record {
            placed = placed_with p q z within none places n numbered h.placed d w.1 id ready;
            visited_placed = λ x s.
                let before = h.visited_placed x s in
                let differs : x ≡ z → ⊥ = λ t. let u : get_or p.ranks.items x 0 ≡ get_or p.ranks.items z 0 = ap (λ i. get_or p.ranks.items i 0) t in omega arith in
                let new = rank_there p q z within none places x differs in
                omega arith;
            counted = λ e g f.
                let o = was_unplaced p q z within none places e.id f in
                let differs = o.0 in
                let before : get_or p.counts.items e.id 0 ≡ unvisited v e.pins + (cond {A = ℕ} (eqb z e.id) 1 0 + pins_among e.id rest) = h.counted e g o.1 in
                let zero' : cond {A = ℕ} (eqb z e.id) 1 0 ≡ 0 = ap (λ b. cond {A = ℕ} b 1 0) (ne_eqb z e.id (λ s. differs (sym s))) in
                let now = count e.id in
                omega arith;
            waits = λ e g f. let o = was_unplaced p q z within none places e.id f in let before = h.waits e g o.1 in let now = count e.id in omega arith;
          };
    }
