use Rattle.std.proofs.Common.{[], ◌∷◌, map, false, true}
use Rattle.chain_test.specs.Hardware.{at_site}
use Rattle.chain_test.specs.inner.Merged.{stuck_at}
use Rattle.chain_test.proofs.LeftOver.{onwards_where}
use Rattle.chain_test.proofs.hardware.walk_line.Goals as goal

pub returns : goal.returns
returns c =
    onwards_where (map (at_site c.args.scanned.now.sites) c.args.faults.now) (stuck_at c.args.line.now false ∷ []) (stuck_at c.args.line.now true ∷ [])
    _ _ _ _ _ _ c.walk_fault-2.result c.in_ok-walk_fault.ensures c.walk_fault-2.ensures
