use Rattle.std.proofs.Common.{arith}
use Rattle.std.specs.List.{list_any}
use Rattle.std.specs.Str.{bytes_eq}
use Rattle.statement.specs.Benches.{name_at}
use Rattle.bench_text.specs.Netlists.{id_of}
use Rattle.bench_text.specs.inner.Drafted.{names_seen, signals_in}
use Rattle.bench_text.proofs.Walks.{all_at}
use Rattle.bench_text.proofs.PartLemmas.{seen-at, mapped-more}
use Rattle.bench_text.proofs.draft.Draft.ids.Goals as goal

pub id-requires-clause-seen : goal.id-requires-clause-seen
id-requires-clause-seen c = seen-at _ c.args.numbers.now _ _ c.requires.seen (omega (arith, c.loop-number-test.true))

pub id-requires-clause-defined : goal.id-requires-clause-defined
id-requires-clause-defined c = all_at (λ n. list_any (bytes_eq (name_at (names_seen c.args.self.now) n)) (signals_in c.args.self.now)) c.args.numbers.now _ _ c.requires.defined (omega (arith, c.loop-number-test.true))

pub loop-number-preserved : goal.loop-number-preserved
loop-number-preserved c =
    let d = c.args.self.now in
    mapped-more (λ n. id_of (signals_in d) (name_at (names_seen d) n)) c.args.numbers.now _ 0 _ _ _ (omega (arith, c.loop-number-test.true)) c.loop-number.invariant c.id.ensures c.in_ok-push.ensures.items
