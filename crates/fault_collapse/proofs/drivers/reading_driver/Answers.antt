use Rattle.std.proofs.Common.{ap, length, arith}
use Rattle.fault_collapse.proofs.DriverTables.{driver_above, driver_at, driver_below}
use Rattle.fault_collapse.proofs.drivers.reading_driver.Goals as goal

pub overflow_sub-result : goal.overflow_sub-result
overflow_sub-result c =
    let r = c.in-Some.ensures in
    let h = driver_above c.args.netlist.now c.sound.ensures.formed.numbered c.args.drivers.now c.requires.drivers r.0 r.2.member c.in-Some.z r.1 in
    let e = ap length c.inputs.ensures in
    omega (arith, c.index.ensures)

pub bounds-drivers-index : goal.bounds-drivers-index
bounds-drivers-index c =
    let r = c.in-Some.ensures in
    let h = driver_below c.args.netlist.now c.sound.ensures.formed.numbered c.args.drivers.now c.requires.drivers r.0 r.2.member c.in-Some.z r.1 in
    let e = ap length c.inputs.ensures in
    omega (arith, c.index.ensures)

pub returns : goal.returns
returns c =
    let r = c.in-Some.ensures in
    let e = ap length c.inputs.ensures in
    (r.0, r.2, driver_at c.args.netlist.now c.sound.ensures.formed.numbered c.args.drivers.now c.requires.drivers r.0 r.2.member c.in-Some.z r.1 _ _ (omega (arith, c.index.ensures)))
