use Rattle.std.proofs.Common.{◌<◌, ◌≤◌, ap, arith, length, subst, sym}
use Rattle.std.specs.List.{All}
use Rattle.cubes.specs.Cubes.{IsPatternOf}
use Rattle.stil_patterns.specs.Applied.{tests_in}
use Rattle.stil_patterns.proofs.PickLemmas.{picks_obey}
use Rattle.stil_patterns.proofs.ReadLemmas.{applied_end, applied_more}
use Rattle.stil_patterns.proofs.reading.applied_patterns.Goals as goal

pub loop-place-preserved : goal.loop-place-preserved
loop-place-preserved c =
    let f = c.args.file.now in
    let test = c.loop-place-test.true in
    let end = c.len-place-end.ensures in
    let same = ap length c.items.ensures in
    let l : c.loop-place.place < length f.items = omega (arith, test, end, same) in
    applied_more c.args.netlist.now c.args.holds.now (length f.chains) c.args.chains.now f.items c.loop-place.place c.loop-place.patterns.items c.push_applied.new.patterns.items l c.loop-place.invariant
    c.in_ok-push_applied.ensures

pub returns-clause-are : goal.returns-clause-are
returns-clause-are c =
    let f = c.args.file.now in
    let test = c.loop-place-test.false in
    let end = c.len-place-end.ensures in
    let same = ap length c.items.ensures in
    let l : length f.items ≤ c.loop-place.place = omega (arith, test, end, same) in
    applied_end c.args.netlist.now c.args.holds.now (length f.chains) c.args.chains.now f.items c.loop-place.place c.loop-place.patterns.items l c.loop-place.invariant

pub returns-clause-obey : goal.returns-clause-obey
returns-clause-obey c =
    let n = c.args.netlist.now in
    let holds = c.args.holds.now in
    let f = c.args.file.now in
    let test = c.loop-place-test.false in
    let end = c.len-place-end.ensures in
    let same = ap length c.items.ensures in
    let l : length f.items ≤ c.loop-place.place = omega (arith, test, end, same) in
    subst (All (IsPatternOf n holds)) (sym (applied_end n holds (length f.chains) c.args.chains.now f.items c.loop-place.place c.loop-place.patterns.items l c.loop-place.invariant))
    (picks_obey n holds c.requires (tests_in (length f.chains) c.args.chains.now f.items))
