use Rattle.std.proofs.Common.{sym, ◌∙◌}
use Rattle.bench_text.proofs.LineLemmas.{reserved-definition}
use Rattle.bench_text.proofs.line.names_reserved.Goals as goal

pub returns-else-is_reserved : goal.returns-else-is_reserved
returns-else-is_reserved c = reserved-definition _ _ _ _ _ _ c.in-Definition.is c.has_reserved.ensures c.deref.ensures (sym c.is_reserved.ensures ∙ c.if-is_reserved.false)
