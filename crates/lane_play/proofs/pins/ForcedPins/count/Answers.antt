use Rattle.std.proofs.Common.{sym}
use Rattle.lane_play.specs.inner.Lanes.{lanes_rule}
use Rattle.lane_play.proofs.Stuckness.{length-read}
use Rattle.lane_play.proofs.pins.ForcedPins.count.Goals as goal

pub returns : goal.returns
returns c = let p = c.args.self.now in sym (length-read (lanes_rule p.faults.now) p.id p.values.now p.pins.now)
