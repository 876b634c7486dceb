use Rattle.std.proofs.Common.{ap, length, arith}
use Rattle.statement.specs.Netlists.{Netlist, signals}
use Rattle.netlist.specs.Conditions.{whole}
use Rattle.netlist.proofs.Placed.{signal_from}
use Rattle.netlist.proofs.netlists.Netlist.name.Goals as goal

pub get-requires : goal.get-requires
get-requires c =
    let n = whole c.self.inside.parts in
    let formed = c.self.invariant.sound.formed in
    let size = ap (λ (m : Netlist). length (signals m)) c.self.view_is in
    let same = c.index.ensures in
    let within = c.requires in
    formed.named c.index.result (signal_from n formed.numbered c.index.result (omega arith))
