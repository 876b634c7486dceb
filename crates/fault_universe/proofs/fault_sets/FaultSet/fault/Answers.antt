use Rattle.std.proofs.Common.{◌<◌, ◌/◌, ◌∙◌, ap, sym, refl, length, arith}
use Rattle.std.specs.List.{slice_get}
use Rattle.fault_universe.proofs.FaultLists.{length-faults, fault_at}
use Rattle.fault_universe.proofs.fault_sets.FaultSet.fault.Goals as goal

pub index-requires : goal.index-requires
index-requires c =
    let h = length-faults c.self.inside.lines.items in
    let e = ap length c.self.view_is in
    omega arith

pub returns : goal.returns
returns c =
    let h = length-faults c.self.inside.lines.items in
    let e = ap length c.self.view_is in
    let within : c.args.i / 2 < length c.self.inside.lines.items = omega arith in
    ap (λ faults. slice_get faults c.args.i) (sym c.self.view_is)
    ∙ fault_at c.self.inside.lines.items c.args.i (c.args.i / 2) c.index.result.now _ refl within c.index.ensures refl
