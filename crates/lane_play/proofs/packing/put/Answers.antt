use Rattle.std.proofs.Common.{true, false, sym, ◌∙◌, ap}
use Rattle.lane_play.specs.inner.Lanes.{lane}
use Rattle.lane_play.proofs.LaneBits.{lane_with, lane_with_other}
use Rattle.lane_play.proofs.packing.put.Goals as goal

pub returns-in-Zero-clause-here : goal.returns-in-Zero-clause-here
returns-in-Zero-clause-here c = ap (lane c.args.k) c.with.ensures ∙ (lane_with c.args.k c.requires.low false c.args.lanes ∙ sym c.in-Zero.is)

pub returns-in-Zero-clause-others : goal.returns-in-Zero-clause-others
returns-in-Zero-clause-others c = λ j low ne. ap (lane j) c.with.ensures ∙ lane_with_other j low c.args.k false c.args.lanes c.requires.low ne

pub returns-in-One-clause-here : goal.returns-in-One-clause-here
returns-in-One-clause-here c = ap (lane c.args.k) c.with-in-One.ensures ∙ (lane_with c.args.k c.requires.low true c.args.lanes ∙ sym c.in-One.is)

pub returns-in-One-clause-others : goal.returns-in-One-clause-others
returns-in-One-clause-others c = λ j low ne. ap (lane j) c.with-in-One.ensures ∙ lane_with_other j low c.args.k true c.args.lanes c.requires.low ne
