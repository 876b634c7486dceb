use Rattle.std.proofs.Common.{◌<◌, length, ap, arith}
use Rattle.statement.specs.Netlists.{signals}
use Rattle.netlist.proofs.Placed.{signals_length}
use Rattle.refutation_check.proofs.Touches.{noted_more, rest_more}
use Rattle.refutation_check.proofs.starting.fixed.Goals as goal

pub note-requires-clause-within : goal.note-requires-clause-within
note-requires-clause-within c =
    let inputs = ap length c.inputs.ensures in
    let defined = ap length c.definitions.ensures in
    let all = signals_length c.args.netlist.now in
    let low = c.loop-x-test.true in
    omega arith

pub loop-x-preserved : goal.loop-x-preserved
loop-x-preserved c =
    let n = c.args.netlist.now in
    let holds = c.args.holds.now in
    let inputs = ap length c.inputs.ensures in
    let defined = ap length c.definitions.ensures in
    let all = signals_length n in
    let low : c.loop-x.x < length (signals n) = let a = c.loop-x-test.true in omega arith in
    record {
      within = noted_more n holds c.loop-x.x c.loop-x.list.items c.note.new.list.items low c.in_ok-note.ensures c.loop-x.invariant.within;
      rest = rest_more n holds c.loop-x.x c.loop-x.list.items c.note.new.list.items c.in_ok-note.ensures c.loop-x.invariant.rest;
    }

pub returns : goal.returns
returns c =
    let inputs = ap length c.inputs.ensures in
    let defined = ap length c.definitions.ensures in
    let all = signals_length c.args.netlist.now in
    let end = c.loop-x-test.false in
    record { within = c.loop-x.invariant.within; rest = λ x l none. c.loop-x.invariant.rest x (omega arith) none }
