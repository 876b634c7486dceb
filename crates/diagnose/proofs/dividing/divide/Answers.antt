use Rattle.std.proofs.Common.{◌+◌, take}
use Rattle.diagnose.specs.Failures.{Failing}
use Rattle.diagnose.specs.inner.Marks.{IsStrobed}
use Rattle.diagnose.proofs.DividingLemmas.{divided_as, divided_stranger, divided_strobed, not_strobed}
use Rattle.diagnose.proofs.MoreMarks.{names_differ, strobed_at}
use Rattle.diagnose.proofs.dividing.divide.Goals.{in-Some+in_ok-strobed-in-Some, in-None+in_ok-strangers-in-None}
use Rattle.diagnose.proofs.dividing.divide.Goals as goal

pub strobed_output-requires : goal.strobed_output-requires
strobed_output-requires c = names_differ c.args.netlist.now c.in_ok-names.names c.in_ok-names.ensures c.requires

pub loop-place-preserved : goal.loop-place-preserved
loop-place-preserved c =
    let s = c.args.netlist.now in
    let cycles = c.args.vectors.now in
    let log = c.args.failures.now in
    let k = c.loop-place.place in
    let names = c.in_ok-names.names in
    let f : Failing = record { cycle = c.get-failure.result.cycle; signal = c.get-failure.result.signal.now } in
    let strobed = c.loop-place.strobed in
    let strangers = c.loop-place.strangers in
    elim c.match-strobed_output.branch [
      | in-Some+in_ok-strobed-in-Some w ↦
          let is = w.in-Some.ensures in
          let at : IsStrobed s cycles f w.in-Some.field-0 = strobed_at s cycles f names w.in-Some.field-0 c.in_ok-names.ensures is.0 is.1 in
          divided_as s cycles (take (k + 1) log) _ _ _ _ w.strobed-is w.strangers-is (divided_strobed s cycles log k f c.get-failure.ensures strobed strangers c.loop-place.invariant w.in-Some.field-0 _ at w.in_ok-strobed-in-Some.ensures)
      | in-None+in_ok-strangers-in-None w ↦
          divided_as s cycles (take (k + 1) log) _ _ _ _ w.strobed-is w.strangers-is (divided_stranger s cycles log k f c.get-failure.ensures strobed strangers c.loop-place.invariant _ (not_strobed s cycles f names c.in_ok-names.ensures w.in-None.ensures) w.in_ok-strangers-in-None.ensures)
    ]
