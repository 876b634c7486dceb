use Rattle.std.proofs.Common.{replicate, false, length, ◌∙◌, ap}
use Rattle.statement.specs.Netlists.{Netlist}
use Rattle.statement.specs.Tests.{cells_of}
use Rattle.scan_play.specs.Shifts.{load}
use Rattle.scan_play.specs.inner.Applied.{flushing}
use Rattle.scan_play.proofs.ApplyLemmas.{begun, begun_more, begun_done}
use Rattle.scan_play.proofs.applying.vector_bursts.Goals as goal

pub loop-pattern-init : goal.loop-pattern-init
loop-pattern-init c =
    begun c.args.core.now c.args.holds.now c.args.chains.now _ c.in_ok-held.held.items c.cell_count-cells.result c.cell_count-cells.ensures.count
    (c.in_ok-bursts.ensures ∙ ap (λ (m : Netlist). flushing m c.args.holds.now c.args.chains.now) c.netlist.ensures)
    c.in_ok-held.ensures

pub loop-pattern-preserved : goal.loop-pattern-preserved
loop-pattern-preserved c =
    begun_more c.args.core.now c.args.holds.now c.args.chains.now c.cell_count-cells.ensures.sound c.cell_count-cells.ensures.cells
    c.args.patterns.now c.loop-pattern.pattern-index c.pattern-item.result c.loop-pattern.bursts.items c.push_test.new.bursts.items c.loop-pattern.held.items c.push_test.new.held.items
    c.loop-pattern-test.true c.pattern-item.is c.loop-pattern.invariant c.in_ok-push_test.ensures

pub returns : goal.returns
returns c =
    let zeros = replicate (length (cells_of c.args.chains.now)) false in
    begun_done c.args.core.now c.args.holds.now c.args.chains.now c.args.patterns.now c.loop-pattern.pattern-index c.loop-pattern.bursts.items c.push.new.self.items c.in_ok-last.last c.loop-pattern.held.items
    c.loop-pattern-test.false c.in_ok-push.ensures.items
    (c.in_ok-last.ensures ∙ (ap (λ (m : Netlist). load m c.args.holds.now c.args.chains.now zeros c.deref.result.now) c.netlist-2.ensures
    ∙ ap (λ x. load c.args.core.now c.args.holds.now c.args.chains.now zeros x) c.deref.ensures.value))
    c.loop-pattern.invariant c.requires.holds
