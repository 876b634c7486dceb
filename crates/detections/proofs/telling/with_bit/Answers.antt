use Rattle.std.proofs.Common.{sym, ◌∙◌}
use Rattle.word_sim.proofs.PackedLemmas.{set_same, set_other}
use Rattle.detections.proofs.telling.with_bit.Goals as goal

pub returns-then-bit-clause-same : goal.returns-then-bit-clause-same
returns-then-bit-clause-same c = λ _. set_same c.args.word c.args.j c.requires ∙ sym c.if-bit.true

pub returns-then-bit-clause-others : goal.returns-then-bit-clause-others
returns-then-bit-clause-others c i ne = set_other c.args.word c.args.j i c.requires ne
