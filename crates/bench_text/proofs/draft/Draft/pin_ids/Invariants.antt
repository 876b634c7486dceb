use Rattle.std.proofs.Common.{◌≡◌, map, take}
use Rattle.statement.specs.Benches.{name_at}
use Rattle.bench_text.specs.Netlists.{id_of}
use Rattle.bench_text.specs.inner.Drafted.{names_seen, signals_in}
use Rattle.bench_text.proofs.draft.Draft.pin_ids.Given as goal

abbrev pub invariant-loop-number : goal.invariant-loop-number
invariant-loop-number l = l.ids.items ≡ map (λ n. id_of (signals_in l.self) (name_at (names_seen l.self) n)) (take l.number-index l.numbers)
