use Rattle.std.proofs.Common.{◌∙◌, sym}
use Rattle.bench_text.proofs.LinesReadLemmas.{is_zero}
use Rattle.cell_order.proofs.LineLemmas.{all_line, bad_line, no_line}
use Rattle.cell_order.proofs.grammar.have_words.Goals as goal

pub returns-then-not-has_words : goal.returns-then-not-has_words
returns-then-not-has_words c = sym (c.lines.invariant ∙ bad_line _ c.lines.rest.now _ _ c.first_line.ensures.line _ c.has_words.ensures c.if-not-has_words.true)

pub lines-preserved : goal.lines-preserved
lines-preserved c = c.lines.invariant ∙ all_line _ c.lines.rest.now _ _ c.first_line.ensures.line _ c.has_words.ensures c.if-not-has_words.false

pub returns : goal.returns
returns c = sym (c.lines.invariant ∙ no_line _ c.lines.rest.now (is_zero _ _ c.is_empty.ensures c.lines-test.false))
