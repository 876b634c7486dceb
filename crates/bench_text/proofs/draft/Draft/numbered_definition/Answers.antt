use Rattle.bench_text.proofs.SeenLemmas.{definition-spelled}
use Rattle.bench_text.proofs.draft.Draft.numbered_definition.Goals as goal

pub returns-clause-same : goal.returns-clause-same
returns-clause-same c = (definition-spelled _ _ c.args.kind c.in_ok-pins.pins _ _ (c.in_ok-pins.ensures.keeps.names _ _ c.in_ok-number.ensures.number) c.in_ok-pins.ensures.numbers).0

pub returns-clause-seen : goal.returns-clause-seen
returns-clause-seen c = (definition-spelled _ _ c.args.kind c.in_ok-pins.pins _ _ (c.in_ok-pins.ensures.keeps.names _ _ c.in_ok-number.ensures.number) c.in_ok-pins.ensures.numbers).1
