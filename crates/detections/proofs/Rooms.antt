-- What a teller has before and after it is told of a batch.
use Rattle.std.proofs.Common.{ℕ, List}
use Rattle.statement.specs.Netlists.{Netlist}
use Rattle.statement.specs.Patterns.{Pattern}
use Rattle.word_sim.specs.inner.Packed.{AreGoodFor, AreSettledWords}
use Rattle.detections.specs.inner.Telling.{CanTell, IsReady}
use Rattle.detections.specs.declared.telling.Teller.{Teller}

-- the words of patterns are settled
pub good_settled : (n : Netlist) (patterns : List Pattern) (values : List ℕ) → AreGoodFor n patterns values → AreSettledWords n values
good_settled n patterns values good = record { inputs = good.inputs; state = good.state; settles = good.settles }

-- other patterns may be next
pub ready_again : (n : Netlist) (patterns : List Pattern) (t : Teller) → CanTell n patterns t → IsReady n t
ready_again n patterns t can = record {
  netlist = can.netlist;
  settled = good_settled n patterns t.events.values can.good;
  points = can.points;
  room = record { heads_size = can.opens.heads_size; opens_size = can.opens.opens_size };
  size = can.known.size;
}
