use Rattle.std.proofs.Common.{arith}
use Rattle.bench_text.proofs.DraftLemmas.{input-pushed, notes-pushed}
use Rattle.bench_text.specs.inner.Drafted.{names_seen}
use Rattle.bench_text.proofs.draft.Draft.push_input.Goals as goal

pub invariant_of-result : goal.invariant_of-result
invariant_of-result c = record {
  sound = input-pushed _ _ _ _ _ _ _ _ c.args.self.sound _ c.args.number _ c.requires.seen c.requires.first (omega (arith, c.len.ensures, c.args.self.inputs.ok.0)) c.in_ok-push-2.ensures.items c.in_ok-push.ensures.items;
}

pub returns-clause-said : goal.returns-clause-said
returns-clause-said c = notes-pushed (names_seen c.args.self) _ _ _ c.in_ok-push-2.ensures.items
