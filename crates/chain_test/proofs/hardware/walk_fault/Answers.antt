use Rattle.std.proofs.Common.{map, refl, sym, ◌∙◌}
use Rattle.chain_test.specs.Hardware.{at_site}
use Rattle.chain_test.specs.inner.Merged.{stuck_at}
use Rattle.chain_test.proofs.LeftOver.{kept_where, past}
use Rattle.chain_test.proofs.hardware.walk_fault.Goals as goal

pub returns-then-is_next : goal.returns-then-is_next
returns-then-is_next c =
    past (map (at_site c.args.scanned.now.sites) c.args.faults.now) c.args.place.now _ (stuck_at c.args.line.now c.args.value) c.args.found.now.items
    (sym c.is_next.ensures.value ∙ c.if-is_next.true) refl

pub returns : goal.returns
returns c =
    kept_where (map (at_site c.args.scanned.now.sites) c.args.faults.now) c.args.place.now (stuck_at c.args.line.now c.args.value) c.args.found.now.items _ c.push.result
    (sym c.is_next.ensures.value ∙ c.if-is_next.false) c.push.ensures
