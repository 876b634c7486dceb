use Rattle.std.proofs.Common.{sym, ◌∙◌}
use Rattle.bench_text.proofs.TokenLemmas.{at_split, no_word, some_word}
use Rattle.bench_text.proofs.token.word_at.Goals as goal

pub returns-then-len-eq0-clause-next : goal.returns-then-len-eq0-clause-next
returns-then-len-eq0-clause-next c =
    no_word c.args.bytes.now _ (at_split _ _ _ _ c.blanks_len.ensures.run c.split_at.ensures.back) (sym c.word_len-len.ensures.run ∙ c.if-len-eq0.true)

pub returns-clause-next : goal.returns-clause-next
returns-clause-next c =
    let split = c.split_at-2.ensures in
    let run = c.word_len-len.ensures.run in
    rw (split.front, split.back, run) (some_word c.args.bytes.now _ (at_split _ _ _ _ c.blanks_len.ensures.run c.split_at.ensures.back) (λ z. c.if-len-eq0.false (run ∙ z)))
