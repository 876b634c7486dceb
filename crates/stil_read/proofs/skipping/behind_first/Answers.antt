use Rattle.std.proofs.Common.{sym, ◌∙◌}
use Rattle.stil_read.proofs.SkipLemmas.{skip_end, skip_found, skip_more}
use Rattle.stil_read.proofs.skipping.behind_first.Goals as goal

pub returns-then-is_spelled : goal.returns-then-is_spelled
returns-then-is_spelled c = skip_found c.args.word.now _ _ _ _ c.skip.invariant c.in-Some.ensures.next (sym c.if-is_spelled.ensures)

pub skip-preserved : goal.skip-preserved
skip-preserved c = skip_more c.args.word.now _ _ _ _ c.skip.invariant c.in-Some.ensures.next (sym c.if-is_spelled.ensures)

pub returns : goal.returns
returns c = skip_end c.args.word.now _ _ c.skip.invariant c.in_default.ensures.next
