use Rattle.std.proofs.Common.{◌≡◌, ◌<◌, ◌+◌, ℕ, true, length, get_or, ap, sym, ◌∙◌, subst}
use Rattle.statement.specs.declared.lines.Line.{Line}
use Rattle.statement.specs.declared.lines.Line.TheVariants.{Pin}
use Rattle.netlist.specs.Netlist.{IsGateAt}
use Rattle.refutation_check.specs.inner.Marks.{Marked, ReadersOf, Spreads, marked, is_marked}
use Rattle.refutation_check.proofs.MarkLemmas.{line_in, reader_defined, gate_below, spreads_reader, line_passed, all_passed, pin_signal}
use Rattle.refutation_check.proofs.cones.mark_readers.Goals as goal
use Rattle.refutation_check.proofs.cones.mark_readers.Goals.{in-Some+in_ok-mark, in_default}

pub gate_of-requires-clause-defined : goal.gate_of-requires-clause-defined
gate_of-requires-clause-defined c =
    reader_defined c.args.netlist.now c.args.id c.index-lines-k.result
    (line_in c.args.netlist.now c.args.id c.readers-lines.result.now c.loop-k.k c.index-lines-k.result c.readers-lines.ensures c.loop-k-test.true c.index-lines-k.is)

pub mark-requires : goal.mark-requires
mark-requires c =
    gate_below c.args.netlist.now c.requires.sound c.in-Some.gate (length c.loop-k.marks.items) c.in-Some.ensures.0 (c.loop-k.invariant.spreads.size ∙ c.requires.size)

pub returns-in_err-mark-clause-spreads : goal.returns-in_err-mark-clause-spreads
returns-in_err-mark-clause-spreads c =
    spreads_reader c.args.netlist.now c.requires.sound c.args.id c.index-lines-k.result
    (line_in c.args.netlist.now c.args.id c.readers-lines.result.now c.loop-k.k c.index-lines-k.result c.readers-lines.ensures c.loop-k-test.true c.index-lines-k.is)
    (marked c.args.marks.now.items c.args.list.now.items) (marked c.loop-k.marks.items c.loop-k.list.items) (marked c.mark.new.marks.items c.mark.new.list.items) c.in-Some.gate
    c.in-Some.ensures.1.0 c.in-Some.ensures.0 c.in-Some.ensures.1.1 c.loop-k.invariant.spreads c.in_err-mark.ensures.spreads

pub loop-k-preserved : goal.loop-k-preserved
loop-k-preserved c =
    let n = c.args.netlist.now in
    let lines = c.readers-lines.result.now in
    let line = c.index-lines-k.result in
    let start = marked c.args.marks.now.items c.args.list.now.items in
    let old = marked c.loop-k.marks.items c.loop-k.list.items in
    let there = line_in n c.args.id lines c.loop-k.k line c.readers-lines.ensures c.loop-k-test.true c.index-lines-k.is in
    elim c.match-gate_of.branch [
      | in-Some+in_ok-mark w ↦
          let new = marked w.mark.new.marks.items w.mark.new.list.items in
          let same : new ≡ marked c.match-gate_of.marks.items c.match-gate_of.list.items =
          ap (λ v. marked v.items w.mark.new.list.items) (sym w.marks-is) ∙ ap (λ v. marked c.match-gate_of.marks.items v.items) (sym w.list-is) in
          let g = w.in-Some.ensures.0 in
          record {
            spreads = subst (Spreads (ReadersOf n c.args.id) start) same
                (spreads_reader n c.requires.sound c.args.id line there start old new w.in-Some.gate w.in-Some.ensures.1.0 g w.in-Some.ensures.1.1 c.loop-k.invariant.spreads
                w.in_ok-mark.ensures.spreads);
            passed = subst (λ (m : Marked). (j : ℕ) (d : Line) (z i : ℕ) → j < c.loop-k.k + 1 → get_or lines j d ≡ Pin z i → IsGateAt n z → is_marked m.marks z ≡ true) same
                (line_passed n lines c.loop-k.k line old new c.loop-k-test.true c.index-lines-k.is w.in_ok-mark.ensures.spreads.kept
                (λ z i e gate. subst (λ y. is_marked new.marks y ≡ true) (pin_signal w.in-Some.gate w.in-Some.ensures.1.0 z i (sym w.in-Some.ensures.1.1 ∙ e)) w.in_ok-mark.ensures.here)
                c.loop-k.invariant.passed);
          }
      | in_default w ↦
          let same : old ≡ marked c.match-gate_of.marks.items c.match-gate_of.list.items =
          ap (λ v. marked v.items c.loop-k.list.items) (sym w.marks-is) ∙ ap (λ v. marked c.match-gate_of.marks.items v.items) (sym w.list-is) in
          record {
            spreads = subst (Spreads (ReadersOf n c.args.id) start) same c.loop-k.invariant.spreads;
            passed = subst (λ (m : Marked). (j : ℕ) (d : Line) (z i : ℕ) → j < c.loop-k.k + 1 → get_or lines j d ≡ Pin z i → IsGateAt n z → is_marked m.marks z ≡ true) same
                (line_passed n lines c.loop-k.k line old old c.loop-k-test.true c.index-lines-k.is (λ y h. h) (λ z i e gate. absurd (w.in_default.ensures z i e gate)) c.loop-k.invariant.passed);
          }
    ]

pub returns-clause-passed : goal.returns-clause-passed
returns-clause-passed c =
    all_passed c.args.netlist.now c.args.id c.readers-lines.result.now c.loop-k.k c.loop-k.marks.items c.readers-lines.ensures c.loop-k-test.false c.loop-k.invariant.passed
