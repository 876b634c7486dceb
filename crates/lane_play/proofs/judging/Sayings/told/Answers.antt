use Rattle.std.proofs.Common.{not, ◌&&◌, ◌∙◌, ap}
use Rattle.lane_play.specs.inner.Bits.{bit_in, bits_and, bits_or}
use Rattle.lane_play.specs.inner.Verdicts.{is_open}
use Rattle.lane_play.proofs.VerdictLemmas.{told_bits}
use Rattle.lane_play.proofs.judging.Sayings.told.Goals as goal

pub returns : goal.returns
returns c k low =
    let s = c.args.self in
    let shown = c.args.shown in
    ap (bit_in k) (c.or-2.ensures ∙ ap (bits_or c.masked-zero.result) c.or.ensures)
    ∙ told_bits k low s.zero s.one s.unknown shown c.masked-zero.result c.masked-one.result c.masked-unknown.result
    (c.masked-zero.ensures k low ∙ ap (λ p. not (is_open s.zero) && bit_in k p) (c.and.ensures ∙ ap (bits_and shown.known) c.opposite.ensures))
    (c.masked-one.ensures k low ∙ ap (λ p. not (is_open s.one) && bit_in k p) c.and-2.ensures)
    (c.masked-unknown.ensures k low ∙ ap (λ p. not (is_open s.unknown) && bit_in k p) c.opposite-2.ensures)
