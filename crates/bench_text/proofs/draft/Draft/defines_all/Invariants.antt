use Rattle.std.proofs.Common.{◌≡◌, drop}
use Rattle.std.specs.List.{list_any, list_all}
use Rattle.std.specs.Str.{bytes_eq}
use Rattle.statement.specs.Benches.{name_at}
use Rattle.bench_text.specs.inner.Drafted.{names_seen, signals_in}
use Rattle.bench_text.proofs.draft.Draft.defines_all.Given as goal

abbrev pub invariant-loop-number : goal.invariant-loop-number
invariant-loop-number l =
    list_all (λ n. list_any (bytes_eq (name_at (names_seen l.self) n)) (signals_in l.self)) (drop l.number-index l.numbers)
    ≡ list_all (λ n. list_any (bytes_eq (name_at (names_seen l.self) n)) (signals_in l.self)) l.numbers
