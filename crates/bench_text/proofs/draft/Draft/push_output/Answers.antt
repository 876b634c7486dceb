use Rattle.bench_text.proofs.DraftLemmas.{notes-pushed}
use Rattle.bench_text.specs.inner.Drafted.{names_seen}
use Rattle.bench_text.proofs.draft.Draft.push_output.Goals as goal

pub returns-clause-said : goal.returns-clause-said
returns-clause-said c = notes-pushed (names_seen c.args.self) _ _ _ c.in_ok-push.ensures.items
