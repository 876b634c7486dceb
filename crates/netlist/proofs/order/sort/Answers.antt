use Rattle.std.proofs.Common.{◌<◌, ◌+◌, ◌-◌, List, length, get_or, sym, subst, ◌∙◌, inl, inr, arith}
use Rattle.std.proofs.lemmas.Bool.{cases_lt}
use Rattle.std.proofs.lemmas.Option.{slice_get-get_or}
use Rattle.statement.specs.declared.lines.Line.{Line}
use Rattle.statement.specs.Netlists.{signals, readers_of}
use Rattle.netlist.specs.Conditions.{whole}
use Rattle.netlist.specs.inner.Sorting.{AreBelow, Counts}
use Rattle.netlist.proofs.ReaderRows.{are_below, row_below, row_is}
use Rattle.netlist.proofs.Sorting.{gate_below, gate_visited, all_visited}
use Rattle.netlist.proofs.order.sort.Goals as goal

pub visit_sources-requires-clause-below : goal.visit_sources-requires-clause-below
visit_sources-requires-clause-below c =
    let n = whole c.args.parts.now in
    subst (λ m. AreBelow m c.args.table.now) (sym (c.in_ok-place_ties.ensures.size ∙ c.in_ok-placing.ensures.started.placed.size)) (are_below n c.requires.numbered c.args.table.now c.requires.readers)

pub loop-gate-init : goal.loop-gate-init
loop-gate-init c = record {
  room = c.in_ok-visit_sources.ensures.room;
  within = omega arith;
  counted = c.in_ok-visit_sources.ensures.counted (whole c.args.parts.now) c.requires.numbered c.requires.readers
      (c.in_ok-place_ties.ensures.counted (whole c.args.parts.now) c.requires.numbered c.in_ok-placing.ensures.started);
}

pub readers-requires : goal.readers-requires
readers-requires c =
    let n = whole c.args.parts.now in
    let p = c.loop-gate.placing in
    let w = gate_below n c.requires.numbered p.order.items p.ranks.items c.loop-gate.invariant.counted.placed c.loop-gate.cursor c.in-Some.gate (sym c.in-Some.ensures) in
    subst (λ m. c.in-Some.gate < m) (sym (are_below n c.requires.numbered c.args.table.now c.requires.readers).size) w.2

pub visit-requires-clause-below : goal.visit-requires-clause-below
visit-requires-clause-below c =
    let n = whole c.args.parts.now in
    let p = c.loop-gate.placing in
    let below = are_below n c.requires.numbered c.args.table.now c.requires.readers in
    let w = gate_below n c.requires.numbered p.order.items p.ranks.items c.loop-gate.invariant.counted.placed c.loop-gate.cursor c.in-Some.gate (sym c.in-Some.ensures) in
    row_below (length p.ranks.items) c.args.table.now (subst (λ m. AreBelow m c.args.table.now) (sym c.loop-gate.invariant.counted.placed.size) below)
    c.in-Some.gate c.readers.result.now (subst (λ m. c.in-Some.gate < m) (sym below.size) w.2) c.readers.ensures

pub loop-gate-smaller : goal.loop-gate-smaller
loop-gate-smaller c =
    let n = whole c.args.parts.now in
    let p = c.loop-gate.placing in
    let w = gate_below n c.requires.numbered p.order.items p.ranks.items c.loop-gate.invariant.counted.placed c.loop-gate.cursor c.in-Some.gate (sym c.in-Some.ensures) in
    let l = w.0 in
    let a = c.loop-gate.invariant.room.left in
    let b = c.loop-gate.invariant.counted.placed.size in
    let less : length (signals (whole c.args.parts.now)) - (c.loop-gate.cursor + 1) < length (signals (whole c.args.parts.now)) - c.loop-gate.cursor = omega arith in
    less

pub loop-gate-preserved : goal.loop-gate-preserved
loop-gate-preserved c =
    let n = whole c.args.parts.now in
    let p = c.loop-gate.placing in
    let q = c.visit.new.self in
    let w = gate_below n c.requires.numbered p.order.items p.ranks.items c.loop-gate.invariant.counted.placed c.loop-gate.cursor c.in-Some.gate (sym c.in-Some.ensures) in
    let l = w.0 in
    let within = subst (λ m. c.in-Some.gate < m) (sym (are_below n c.requires.numbered c.args.table.now c.requires.readers).size) w.2 in
    let visit : Counts c.readers.result.now p q = c.in_ok-visit.ensures in
    let row = row_is n c.requires.numbered c.args.table.now c.requires.readers c.in-Some.gate c.readers.result.now within c.readers.ensures in
    record {
      room = visit.room;
      within = let grow = visit.grow.order in omega arith;
      counted = gate_visited n c.requires.numbered p q c.loop-gate.cursor w.0
          (subst (λ x. Counts (readers_of n x) p q) w.1 (subst (λ (ls : List Line). Counts ls p q) row visit)) c.loop-gate.invariant.counted;
    }

pub returns : goal.returns
returns c =
    let p = c.loop-gate.placing in
    all_visited (whole c.args.parts.now) p c.loop-gate.cursor
    (elim (cases_lt c.loop-gate.cursor (length p.order.items)) [
      | inl l ↦ absurd (c.in_default.not-Some (get_or p.order.items c.loop-gate.cursor 0) (c.gate_at.ensures ∙ slice_get-get_or p.order.items c.loop-gate.cursor 0 l))
      | inr end ↦ end
    ])
    c.loop-gate.invariant.counted
