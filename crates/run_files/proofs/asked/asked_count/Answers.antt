use Rattle.std.proofs.Common.{◌≡◌, false, get_or, take, arith}
use Rattle.run_files.specs.Runs.{count_true}
use Rattle.run_files.proofs.CountLemmas.{count_few, count_next}
use Rattle.run_files.proofs.FirstLemmas.{as_one, one_small}
use Rattle.run_files.proofs.asked.asked_count.Goals as goal

pub overflow_add-count : goal.overflow_add-count
overflow_add-count c =
    let k = c.loop-asked.asked-index in
    let faults = c.args.faults.now in
    let so_far : c.loop-asked.count ≡ count_true (take k faults) = c.loop-asked.invariant in
    let few = count_few faults k in
    let here = as_one (get_or faults k false) in
    let small = one_small (get_or faults k false) in
    omega (arith, c.loop-asked-test.true, c.requires)

pub loop-asked-preserved : goal.loop-asked-preserved
loop-asked-preserved c =
    let k = c.loop-asked.asked-index in
    let faults = c.args.faults.now in
    let so_far : c.loop-asked.count ≡ count_true (take k faults) = c.loop-asked.invariant in
    let here = as_one (get_or faults k false) in
    let step = count_next faults k c.loop-asked-test.true in
    omega arith
