use Rattle.std.proofs.Common.{◌<◌, [], length, sym, ap, arith}
use Rattle.statement.specs.Netlists.{signals}
use Rattle.scan_insert.specs.Scanned.{own_site}
use Rattle.scan_insert.proofs.Making.{map_step}
use Rattle.scan_insert.proofs.sites.own_sites.Goals as goal

pub loop-x-preserved : goal.loop-x-preserved
loop-x-preserved c =
    let x = c.loop-x.x in
    let within : x < length (signals c.args.netlist.now) = omega (arith, c.loop-x-test.true, c.requires.all) in
    map_step own_site [] c.loop-x.sites.items c.push.new.self.items (signals c.args.netlist.now) x 0 (own_site x) within
    c.loop-x.invariant c.in_ok-push.ensures.items (ap own_site (sym (c.requires.sound.formed.numbered x within)))
