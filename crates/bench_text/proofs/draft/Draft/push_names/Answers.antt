use Rattle.std.proofs.Common.{Bor, List, ℕ, arith, sym, ap}
use Rattle.std.specs.Prelude.{unwrap_or, [], length}
use Rattle.std.proofs.lemmas.List.{length-map}
use Rattle.statement.specs.Benches.{name_at}
use Rattle.bench_text.specs.inner.Drafted.{names_seen}
use Rattle.bench_text.proofs.PartLemmas.{seen-at, mapped-behind}
use Rattle.bench_text.proofs.draft.Draft.push_names.Goals as goal

pub name-requires : goal.name-requires
name-requires c =
    let s = c.args.self.now in
    let at = seen-at (length (names_seen s)) c.args.numbers.now c.loop-number.number-index 0 c.requires (omega (arith, c.loop-number-test.true)) in
    omega (arith, at, length-map s.sights.names.keys (λ (x : Bor (List ℕ)). x.now))

pub loop-number-preserved : goal.loop-number-preserved
loop-number-preserved c =
    mapped-behind (name_at (names_seen c.args.self.now)) c.args.numbers.now _ 0 _ c.args.names.now _ _ (omega (arith, c.loop-number-test.true)) c.loop-number.invariant (sym (ap (λ o. unwrap_or o []) c.name.ensures)) c.in_ok-push.ensures.ok
