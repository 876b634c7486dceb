use Rattle.std.proofs.Common.{◌≡◌, ◌<◌, ◌+◌, [], List, length, get_or, sym, subst, ap, ◌∙◌, arith, vec_len}
use Rattle.std.proofs.lemmas.List.{get_or_default}
use Rattle.statement.specs.declared.lines.Line.{Line}
use Rattle.netlist.specs.declared.order.Placing.{Placing}
use Rattle.netlist.specs.inner.Sorting.{Counts, HasRoom, IsCounted, sources_below}
use Rattle.netlist.proofs.ReaderRows.{row_is}
use Rattle.netlist.proofs.Sorting.{source_visited, source_passed, all_sources}
use Rattle.netlist.proofs.order.Placing.visit_sources.Goals as goal
use Rattle.netlist.proofs.order.Placing.visit_sources.Goals.{then-index-eq1+in_ok-visit, else-index-eq1}

pub loop-signal-preserved : goal.loop-signal-preserved
loop-signal-preserved c =
    let p = c.loop-signal.self in
    let x = c.loop-signal.signal in
    let table = c.args.table.now in
    let invariant = c.loop-signal.invariant in
    let end : c.len-signal-end.result ≡ vec_len c.args.self.now.ranks = c.len-signal-end.ensures in
    let below : x < length p.ranks.items = let l = c.loop-signal-test.true in let s = invariant.size in let m = c.args.self.now.ranks.ok.0 in omega arith in
    let rank : get_or p.ranks.items x 0 ≡ c.index.result.now = sym (c.index.ensures ∙ get_or_default p.ranks.items x c.index.result.now 0 below) in
    elim c.if-index-eq1.branch [
      | then-index-eq1+in_ok-visit w ↦
          let visit = w.in_ok-visit.ensures in
          let within : x < length table = let s = invariant.size in let m = c.requires.below.size in omega arith in
          let next = subst (λ (q : Placing). Counts w.readers.result.now p q) (sym w.self-is) visit in
          record {
            room = next.room;
            size = next.grow.size ∙ invariant.size;
            counted = λ n numbered readers start.
                source_visited n numbered p c.if-index-eq1.self x (rank ∙ w.if-index-eq1.true)
                (subst (λ (ls : List Line). Counts ls p c.if-index-eq1.self) (row_is n numbered table readers x w.readers.result.now within w.readers.ensures) next)
                (invariant.counted n numbered readers start);
          }
      | else-index-eq1 w ↦
          let same : (q : Placing) → q ≡ p → HasRoom q × (length q.ranks.items ≡ length p.ranks.items) =
          λ q e. (subst HasRoom (sym e) invariant.room, ap (λ (r : Placing). length r.ranks.items) e) in
          record {
            room = (same c.if-index-eq1.self w.self-is).0;
            size = (same c.if-index-eq1.self w.self-is).1 ∙ invariant.size;
            counted = λ n numbered readers start.
                subst (λ (q : Placing). IsCounted n (sources_below q.ranks.items (x + 1)) [] q) (sym w.self-is)
                (source_passed n p x (λ e. w.if-index-eq1.false (sym rank ∙ e)) (invariant.counted n numbered readers start));
          }
    ]

pub returns : goal.returns
returns c =
    let invariant = c.loop-signal.invariant in
    let end = c.len-signal-end.ensures in
    record {
      room = invariant.room;
      size = invariant.size;
      counted = λ n numbered readers start.
          all_sources n c.loop-signal.self c.loop-signal.signal
          (let a = c.loop-signal-test.false in let b = c.loop-signal.auto.signal-end in let s = invariant.size in let m = c.args.self.now.ranks.ok.0 in omega arith)
          (invariant.counted n numbered readers start);
    }
