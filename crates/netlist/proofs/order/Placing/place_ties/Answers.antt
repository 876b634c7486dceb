use Rattle.std.proofs.Common.{arith}
use Rattle.netlist.proofs.Ties.{ties_placed}
use Rattle.netlist.proofs.order.Placing.place_ties.Goals as goal

pub returns : goal.returns
returns c =
    let h = c.loop-signal.invariant in
    let end = c.len-signal-end.ensures in
    let stop = c.loop-signal-test.false in
    let m = c.args.self.now.ranks.ok.0 in
    record {
      room = h.room;
      size = h.size;
      counted = λ n numbered s. ties_placed n numbered c.loop-signal.self c.loop-signal.signal (let size = h.size in omega arith) (h.started n numbered s);
    }
