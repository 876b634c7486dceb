use Rattle.std.proofs.Common.{◌≡◌, ℕ, List, length, subst, sym, ◌∙◌, ap, arith, Some}
use Rattle.std.specs.List.{slice_get, flat_map}
use Rattle.std.proofs.lemmas.Option.{slice_get-get_or}
use Rattle.run_report.specs.Heads.{hold_at}
use Rattle.run_report.proofs.ListLemmas.{held_more, all_held}
use Rattle.run_report.proofs.held.hold_lines_of.Goals as goal

pub loop-k-preserved : goal.loop-k-preserved
loop-k-preserved c =
    let n = c.args.netlist.now in
    let holds = c.args.holds.now in
    let k = c.loop-k.k in
    let read : List ℕ → Type 0 = λ xs. slice_get xs k ≡ Some c.input-item.result in
    let input : slice_get n.inputs k ≡ Some c.input-item.result = subst read c.inputs-input-items.ensures
    (slice_get-get_or c.inputs-input-items.result.now k c.input-item.result c.loop-k-test.true ∙ ap (λ x. Some x) (sym c.input-item.is)) in
    held_more (hold_at n) n.inputs holds k c.input-item.result c.held.result c.loop-k.lines c.in_ok-lines.lines input c.held.ensures c.loop-k.invariant c.in_ok-lines.ensures

pub returns : goal.returns
returns c =
    let n = c.args.netlist.now in
    let holds = c.args.holds.now in
    c.loop-k.invariant ∙ ap (flat_map (hold_at n)) (all_held n.inputs holds c.loop-k.k (omega (arith, c.loop-k-test.false, ap length c.inputs-input-items.ensures)))
