use Rattle.std.proofs.Common.{◌≤◌, length, ap, arith}
use Rattle.std.proofs.lemmas.Slice.Zip.{AllZip-long}
use Rattle.detections.specs.Times.{IsTimes}
use Rattle.run_files.proofs.SearchLemmas.{fewer}
use Rattle.run_files.proofs.repeating.unsettled.Goals as goal

pub unmarked-requires : goal.unmarked-requires
unmarked-requires c =
    let size = AllZip-long (IsTimes c.args.core.now c.args.patterns.now c.args.most) c.args.faults.now c.in_ok-times.times.items c.in_ok-times.ensures in
    let times = ap length c.deref.ensures.value in
    let marks = ap length c.deref-2.ensures.value in
    record { size = omega (arith, c.in_ok-settled.ensures) }

pub returns : goal.returns
returns c =
    let few = fewer c.deref-2.result.now c.args.faults.now in
    let left = ap length c.in_ok-unmarked.ensures.exactly in
    let most : length c.args.faults.now ≤ 2052000000 = c.requires.faults.few in
    record { few = omega arith; lines = c.in_ok-unmarked.ensures.lines c.args.core.now c.requires.faults.lines }
