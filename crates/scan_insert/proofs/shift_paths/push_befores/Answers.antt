use Rattle.std.proofs.Common.{◌∙◌}
use Rattle.scan_insert.specs.inner.Made.{held_at}
use Rattle.scan_insert.proofs.Making.{before_step, next_before}
use Rattle.scan_insert.proofs.shift_paths.push_befores.Goals as goal

pub loop-cell-preserved : goal.loop-cell-preserved
loop-cell-preserved c =
    let held = held_at c.args.sites.now in
    let i = c.loop-cell.cell-index in
    record {
      made = before_step c.args.befores.now.items c.loop-cell.befores.items c.push.new.self.items c.args.chain.now held c.args.input c.loop-cell.before i
          c.loop-cell-test.true c.loop-cell.invariant.made c.loop-cell.invariant.last c.in_ok-push.ensures.items;
      last = c.held-before.ensures ∙ next_before c.args.chain.now held c.args.input c.cell-item.result i c.loop-cell-test.true c.cell-item.is;
    }
