-- Gates without pins are placed before anything is visited.
use Rattle.std.proofs.Common.{◌≡◌, ℕ, ◌+◌, ◌<◌, ◌≤◌, [], false, length, get_or, refl, ◌∙◌, ap, subst, sym, inl, inr, arith}
use Rattle.std.proofs.lemmas.Bool.{both_ways, cases_eq}
use Rattle.netlist.specs.declared.order.Placing.{Placing}
use Rattle.statement.specs.Netlists.{Netlist}
use Rattle.netlist.specs.Conditions.{IsNumbered}
use Rattle.netlist.specs.inner.Sorting.{nothing, HasRoom, IsCounted, IsStarted, Places, PlacesTie}
use Rattle.netlist.proofs.Placed.{definition_below, gate_defined, unplaced_gate}
use Rattle.netlist.proofs.Waiting.{unvisited_nothing}
use Rattle.netlist.proofs.OneMore.{same_size, same_count, was_unplaced, room_placed, placed_with}

-- a gate without pins is placed
started_with : (n : Netlist) → IsNumbered n → (p q : Placing) (z : ℕ) → z < length p.ranks.items → get_or p.ranks.items z 0 ≡ 0 → get_or p.counts.items z 0 ≡ 0
    → Places z p q → IsStarted n z p → IsStarted n (z + 1) q
started_with n numbered p q z within none free places h =
    let w = unplaced_gate n numbered p.order.items p.ranks.items h.placed z within none in
    let d = w.0 in
    let id = w.2 in
    let still : get_or p.ranks.items d.id 0 ≡ 0 = ap (λ i. get_or p.ranks.items i 0) id ∙ none in
    let count : get_or p.counts.items d.id 0 ≡ length d.pins = h.counted d w.1 still in
    let same : get_or p.counts.items d.id 0 ≡ get_or p.counts.items z 0 = ap (λ i. get_or p.counts.items i 0) id in
    let bare : length d.pins ≡ 0 = omega arith in
    record {
      placed = placed_with p q z within none places n numbered h.placed d w.1 id (λ x c. let l : c.0 < length d.pins = c.1 in absurd (omega arith));
      counted = λ e g f. same_count p q z within none places e.id ∙ h.counted e g (was_unplaced p q z within none places e.id f).1;
      waits = λ e g l f.
          let o = was_unplaced p q z within none places e.id f in
          let differs = o.0 in
          let before = h.waits e g (omega arith) o.1 in
          let now = same_count p q z within none places e.id in
          omega arith;
    }

pub tie_placed : (p q : Placing) (z : ℕ) → HasRoom p → z < length p.ranks.items → get_or p.ranks.items z 0 ≡ 0 → get_or p.counts.items z 0 ≡ 0
    → Places z p q → PlacesTie z p q
tie_placed p q z room within none free places = record {
  room = room_placed p q z within none places room;
  size = same_size p q z within none places;
  started = λ n numbered h. started_with n numbered p q z within none free places h;
}

-- no gate without pins is left
pub ties_placed : (n : Netlist) → IsNumbered n → (p : Placing) (m : ℕ) → length p.ranks.items ≤ m → IsStarted n m p → IsCounted n nothing [] p
ties_placed n numbered p m all h = record {
  placed = h.placed;
  visited_placed = λ x s. absurd (both_ways false refl s);
  counted = λ d g e. let a = h.counted d g e in let b = unvisited_nothing d.pins in omega arith;
  waits = λ d g e. h.waits d g (let b = definition_below n numbered d (gate_defined n numbered d g) in let s = h.placed.size in omega arith) e;
}
