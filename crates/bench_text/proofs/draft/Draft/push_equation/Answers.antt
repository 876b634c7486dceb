use Rattle.bench_text.proofs.PartLemmas.{pins-defined, equation-pushed}
use Rattle.bench_text.proofs.draft.Draft.push_equation.Goals as goal

pub pin_ids-requires-clause-defined : goal.pin_ids-requires-clause-defined
pin_ids-requires-clause-defined c = pins-defined _ _ _ _ _ _ _ c.in-Definition.is c.deref.ensures c.requires.reads

pub returns-in_ok-push-in-Definition : goal.returns-in_ok-push-in-Definition
returns-in_ok-push-in-Definition c =
    equation-pushed _ _ _ _ _ _ _ _ _ _ _ _ c.in-Definition.is c.deref.ensures c.id-id.ensures c.in_ok-pins-in-Definition.ensures c.new.ensures c.in_ok-push-in-Definition.ensures.items
