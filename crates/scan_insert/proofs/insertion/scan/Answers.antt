use Rattle.std.proofs.Common.{◌≤◌, sym, ◌∙◌, subst}
use Rattle.netlist.specs.Conditions.{IsSound}
use Rattle.scan_insert.proofs.Concrete.{are_dealt}
use Rattle.scan_insert.proofs.Soundness.{scanned_sound}
use Rattle.scan_insert.proofs.Ready.{few_chains, made_sites, are_ready}
use Rattle.scan_insert.proofs.insertion.scan.Goals as goal

pub moved_sites-requires-clause-few : goal.moved_sites-requires-clause-few
moved_sites-requires-clause-few c =
    subst (λ k. k ≤ 1000000) (sym c.count.ensures) (few_chains c.args.netlist.now c.args.chains.now c.requires.design c.requires.chains)

pub scanned_parts-requires-clause-ready : goal.scanned_parts-requires-clause-ready
scanned_parts-requires-clause-ready c =
    are_ready c.args.netlist.now c.args.chains.now c.deref.result.now c.requires.sound c.requires.design c.requires.chains c.requires.some
    (c.deref.ensures.value ∙ made_sites c.args.netlist.now c.args.chains.now c.in_ok-sites.sites.items c.count.result c.requires.some c.count.ensures c.in_ok-sites.ensures)

pub scanned_parts-requires-clause-sites : goal.scanned_parts-requires-clause-sites
scanned_parts-requires-clause-sites c =
    c.deref.ensures.value ∙ made_sites c.args.netlist.now c.args.chains.now c.in_ok-sites.sites.items c.count.result c.requires.some c.count.ensures c.in_ok-sites.ensures

pub netlist_of-requires : goal.netlist_of-requires
netlist_of-requires c =
    subst IsSound (sym c.in_ok-parts.ensures)
    (scanned_sound c.args.netlist.now c.args.chains.now c.requires.sound c.requires.design (are_dealt c.args.netlist.now c.args.chains.now c.requires.chains))
