use Rattle.std.proofs.Common.{◌∙◌, ap}
use Rattle.lane_play.specs.inner.Bits.{bit_in}
use Rattle.lane_play.proofs.BitLemmas.{with_bit_other, with_bit_same}
use Rattle.lane_play.proofs.bits.Bits.with.Goals as goal

pub returns-clause-same : goal.returns-clause-same
returns-clause-same c = ap (bit_in c.args.k) c.put_in.ensures ∙ with_bit_same c.args.k c.args.bit c.args.self

pub returns-clause-others : goal.returns-clause-others
returns-clause-others c = λ j low ne. ap (bit_in j) c.put_in.ensures ∙ with_bit_other c.args.k j c.args.bit c.args.self c.requires low ne
