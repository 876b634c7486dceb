use Rattle.std.proofs.Common.{◌∷◌, List, OnOk, ap, map, subst, ◌∙◌}
use Rattle.std.specs.List.{flat_map}
use Rattle.statement.specs.Netlists.{Netlist, readers_of}
use Rattle.statement.specs.declared.lines.Line.{Line}
use Rattle.statement.specs.declared.lines.Line.TheVariants.{Stem}
use Rattle.fault_universe.specs.Universe.{branching}
use Rattle.statement.specs.Faults.{faults_of}
use Rattle.chain_test.specs.Hardware.{at_site}
use Rattle.chain_test.specs.inner.Merged.{Walks}
use Rattle.chain_test.proofs.LeftOver.{onwards_where}
use Rattle.chain_test.proofs.hardware.walk_signal.Goals as goal

pub returns : goal.returns
returns c =
    let ts = map (at_site c.args.scanned.now.sites) c.args.faults.now in
    let branches = c.branches-branches.ensures ∙ ap (λ (n : Netlist). branching (readers_of n c.args.signal)) c.netlist.ensures in
    subst (λ (lines : List Line). OnOk c.walk_lines.result
    (Walks ts (flat_map faults_of (Stem c.args.signal ∷ lines)) c.args.place.now c.args.found.now.items c.walk_lines.new.place c.walk_lines.new.found.items)) branches
    (onwards_where ts (faults_of (Stem c.args.signal)) (flat_map faults_of c.branches-branches.result.now) _ _ _ _ _ _ c.walk_lines.result c.in_ok-walk_line.ensures c.walk_lines.ensures)
