use Rattle.std.proofs.Common.{◌≡◌, drop}
use Rattle.std.specs.Prelude.{find, not}
use Rattle.bench_text.specs.declared.numbered.Entry.{Entry}
use Rattle.bench_text.specs.inner.Numbered.{spelling_of}
use Rattle.bench_text.specs.Whole.{reads_from}
use Rattle.bench_text.specs.inner.Drafted.{names_seen, signals_in}
use Rattle.bench_text.proofs.draft.Draft.first_undefined.Given as goal

abbrev pub invariant-loop-entry : goal.invariant-loop-entry
invariant-loop-entry l =
    find (λ (e : Entry). not (reads_from (signals_in l.self) (spelling_of (names_seen l.self) e.statement))) (drop l.entry-index l.self.entries.items)
    ≡ find (λ (e : Entry). not (reads_from (signals_in l.self) (spelling_of (names_seen l.self) e.statement))) l.self.entries.items
