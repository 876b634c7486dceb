use Rattle.std.proofs.Common.{sym, ap, ◌∙◌, arith}
use Rattle.std.specs.Prelude.{Some}
use Rattle.bench_text.proofs.WholeLemmas.{whole-too_many, whole-no_input, whole-no_output, whole-undefined}
use Rattle.bench_text.proofs.draft.Draft.whole_refusal.Goals as goal

pub returns-then-signal_count-most_signals : goal.returns-then-signal_count-most_signals
returns-then-signal_count-most_signals c =
    ap (λ r. Some r) c.of_text.ensures
    ∙ sym (whole-too_many _ _ _ _ _ _ c.args.self.now.sound c.args.reading _ c.signal_count.ensures (omega (arith, c.most_signals.ensures, c.if-signal_count-most_signals.true)))

pub returns-then-len-eq0 : goal.returns-then-len-eq0
returns-then-len-eq0 c =
    let s = c.args.self.now in
    ap (λ r. Some r) c.of_text-then-len-eq0.ensures
    ∙ sym (whole-no_input _ _ _ _ _ _ s.sound c.args.reading _ c.signal_count.ensures (omega (arith, c.most_signals.ensures, c.if-signal_count-most_signals.false))
    (omega (arith, c.len.ensures, c.if-len-eq0.true, s.inputs.ok.0)))

pub returns-then-len-eq0-2 : goal.returns-then-len-eq0-2
returns-then-len-eq0-2 c =
    let s = c.args.self.now in
    ap (λ r. Some r) c.of_text-then-len-eq0-2.ensures
    ∙ sym (whole-no_output _ _ _ _ _ _ s.sound c.args.reading _ c.signal_count.ensures (omega (arith, c.most_signals.ensures, c.if-signal_count-most_signals.false))
    (omega (arith, c.len.ensures, c.if-len-eq0.false, s.inputs.ok.0)) (omega (arith, c.len-2.ensures.len, c.if-len-eq0-2.true)))

pub returns-in-Some : goal.returns-in-Some
returns-in-Some c =
    let s = c.args.self.now in
    sym (whole-undefined _ _ _ _ _ _ s.sound c.args.reading _ c.signal_count.ensures (omega (arith, c.most_signals.ensures, c.if-signal_count-most_signals.false))
    (omega (arith, c.len.ensures, c.if-len-eq0.false, s.inputs.ok.0)) (omega (arith, c.len-2.ensures.len, c.if-len-eq0-2.false)) _ c.in-Some.ensures)

pub returns-in-None : goal.returns-in-None
returns-in-None c =
    let s = c.args.self.now in
    sym (whole-undefined _ _ _ _ _ _ s.sound c.args.reading _ c.signal_count.ensures (omega (arith, c.most_signals.ensures, c.if-signal_count-most_signals.false))
    (omega (arith, c.len.ensures, c.if-len-eq0.false, s.inputs.ok.0)) (omega (arith, c.len-2.ensures.len, c.if-len-eq0-2.false)) _ c.in-None.ensures)
