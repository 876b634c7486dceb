use Rattle.bench_text.proofs.WholeLemmas.{reads-definition}
use Rattle.bench_text.proofs.draft.Draft.reads_defined.Goals as goal

pub returns-in-Definition : goal.returns-in-Definition
returns-in-Definition c = reads-definition _ _ _ _ _ _ _ _ c.in-Definition.is c.defines_all.ensures c.deref.ensures
