use Rattle.std.proofs.Common.{sym, ◌∙◌}
use Rattle.std.proofs.lemmas.List.{nil_from_length}
use Rattle.bench_text.proofs.TokenLemmas.{at_split, some_mark, no_mark-end, no_mark-other}
use Rattle.bench_text.proofs.token.mark_at.Goals as goal

pub returns-in_err-first-clause-next : goal.returns-in_err-first-clause-next
returns-in_err-first-clause-next c =
    let behind = at_split _ _ _ _ c.blanks_len.ensures.run c.split_at.ensures.back in
    rw c.from_residual.ensures (no_mark-end c.args.bytes.now c.args.mark (behind ∙ nil_from_length _ c.in_err-first.ensures.cases))

pub returns-then-first-byte-clause-next : goal.returns-then-first-byte-clause-next
returns-then-first-byte-clause-next c =
    let behind = at_split _ _ _ _ c.blanks_len.ensures.run c.split_at.ensures.back in
    some_mark c.args.bytes.now c.args.mark _ _ (behind ∙ c.in_ok-first.ensures.cases.0) (c.if-first-byte.true ∙ c.byte.ensures)

pub returns-else-first-byte-clause-next : goal.returns-else-first-byte-clause-next
returns-else-first-byte-clause-next c =
    let behind = at_split _ _ _ _ c.blanks_len.ensures.run c.split_at.ensures.back in
    no_mark-other c.args.bytes.now c.args.mark _ _ (behind ∙ c.in_ok-first.ensures.cases.0) (λ e. c.if-first-byte.false (e ∙ sym c.byte.ensures))
