use Rattle.std.proofs.Common.{length, ap, ◌∙◌}
use Rattle.scan_insert.specs.Scanned.{Insertion}
use Rattle.scan_insert.proofs.Ready.{sites_cover}
use Rattle.netlist_calls.proofs.scans.scanned_with.Goals as goal

pub returns-in-Ok : goal.returns-in-Ok
returns-in-Ok c =
    ap (λ (s : Insertion). length s.sites) c.in-Ok.ensures
    ∙ sites_cover c.args.netlist.now c.in_ok-chains.chains c.sound.ensures c.in_ok-chains.ensures
