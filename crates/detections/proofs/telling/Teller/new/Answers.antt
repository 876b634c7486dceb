use Rattle.std.proofs.Common.{◌∙◌, length, ap, arith}
use Rattle.statement.specs.Netlists.{Netlist, signals}
use Rattle.detections.proofs.Rooms.{good_settled}
use Rattle.detections.proofs.telling.Teller.new.Goals as goal

pub returns : goal.returns
returns c =
    let count = ap (λ (m : Netlist). length (signals m)) c.netlist.ensures in
    let heads = c.in_ok-paths.ensures.heads in
    let size = c.in_ok-seen.ensures in
    let all = c.len.ensures in
    let ok = c.in_ok-paths.paths.heads.ok.0 in
    record {
      netlist = c.in_ok-good_events.ensures.netlist;
      settled = good_settled c.args.core.now _ c.in_ok-good_events.field-0.values c.in_ok-good_events.ensures.good;
      points = c.in_ok-of.ensures;
      room = record { heads_size = heads ∙ count; opens_size = c.in_ok-paths.ensures.opens ∙ count };
      size = omega arith;
    }
