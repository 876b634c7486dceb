use Rattle.std.proofs.Common.{◌≡◌, ◌<◌, List, ℕ, length, sym, subst, slice_index}
use Rattle.netlist.specs.Conditions.{whole}
use Rattle.netlist.specs.inner.Placed.{HasRanks}
use Rattle.netlist.proofs.Placed.{acyclic, no_loop, on_loop, definition_below, gate_defined}
use Rattle.netlist.proofs.Orders.{order_of}
use Rattle.netlist.proofs.WellFormed.{closed_of, none_undefined}
use Rattle.netlist.proofs.netlists.arrange.Goals as goal

pub of_parts-requires-clause-closed : goal.of_parts-requires-clause-closed
of_parts-requires-clause-closed c = closed_of (whole c.args.parts.now) c.requires.formed c.requires.named.names

pub sort-requires-clause-closed : goal.sort-requires-clause-closed
sort-requires-clause-closed c = closed_of (whole c.args.parts.now) c.requires.formed c.requires.named.names

pub returns-in-None : goal.returns-in-None
returns-in-None c =
    let n = whole c.args.parts.now in
    let order = c.in-Ok-sort.sorting.order.items in
    let ranks = c.in-Ok-sort.sorting.ranks.items in
    let placed = c.in-Ok-sort.ensures.placed in
    let all : HasRanks ranks (length ranks) = subst (λ (r : List ℕ). HasRanks r (length r)) c.deref.ensures.value c.in-None.ensures in
    record {
      sound = record {
        formed = c.requires.formed;
        sized = c.requires.named.sized;
        closed = closed_of n c.requires.formed c.requires.named.names;
        acyclic = acyclic n c.requires.formed.numbered order ranks placed all;
      };
      readers_are = c.in-Ok.ensures;
      ordered = order_of n c.requires.formed.numbered order ranks placed
          (λ d g. all d.id (subst (λ m. d.id < m) (sym placed.size) (definition_below n c.requires.formed.numbered d (gate_defined n c.requires.formed.numbered d g))));
    }

pub returns-in-Some : goal.returns-in-Some
returns-in-Some c =
    let n = whole c.args.parts.now in
    let order = c.in-Ok-sort.sorting.order.items in
    let ranks = c.in-Ok-sort.sorting.ranks.items in
    let few = c.requires.named.names in
    let w : (c.in-Some.z < length ranks) × (slice_index ranks c.in-Some.z ≡ 0) × HasRanks ranks c.in-Some.z =
    subst (λ (r : List ℕ). (c.in-Some.z < length r) × (slice_index r c.in-Some.z ≡ 0) × HasRanks r c.in-Some.z) c.deref.ensures.value c.in-Some.ensures in (
      c.requires.named.sized,
      none_undefined n c.requires.formed few,
      on_loop n c.requires.formed.numbered order ranks (closed_of n c.requires.formed few) c.in-Ok-sort.ensures c.in-Some.z w.0 w.1,
      λ y l. no_loop n c.requires.formed.numbered order ranks c.in-Ok-sort.ensures.placed y (w.2 y l),
    )
