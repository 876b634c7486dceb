use Rattle.std.proofs.Common.{arith}
use Rattle.bench_text.proofs.DraftLemmas.{definition-pushed, notes-pushed}
use Rattle.bench_text.specs.inner.Drafted.{names_seen}
use Rattle.bench_text.proofs.draft.Draft.push_definition.Goals as goal

pub invariant_of-result : goal.invariant_of-result
invariant_of-result c = record {
  sound = definition-pushed _ _ _ _ _ _ _ _ c.args.self.sound _ c.args.number _ c.args.kind c.args.pins c.requires.seen c.requires.first c.requires.pins (omega (arith, c.len.ensures, c.args.self.definitions.ok.0)) c.in_ok-push-2.ensures.items c.in_ok-push.ensures.items;
}

pub returns-clause-said : goal.returns-clause-said
returns-clause-said c = notes-pushed (names_seen c.args.self) _ _ _ c.in_ok-push-2.ensures.items
