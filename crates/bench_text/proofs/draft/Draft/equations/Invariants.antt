use Rattle.std.proofs.Common.{◌≡◌, take}
use Rattle.std.specs.List.{flat_map}
use Rattle.bench_text.specs.declared.numbered.Entry.{Entry}
use Rattle.bench_text.specs.inner.Numbered.{spelling_of}
use Rattle.bench_text.specs.Netlists.{equation}
use Rattle.bench_text.specs.inner.Drafted.{names_seen, signals_in}
use Rattle.bench_text.proofs.draft.Draft.equations.Given as goal

abbrev pub invariant-loop-entry : goal.invariant-loop-entry
invariant-loop-entry l = l.equations.items ≡ flat_map (λ (e : Entry). equation (signals_in l.self) (spelling_of (names_seen l.self) e.statement)) (take l.entry-index l.self.entries.items)
