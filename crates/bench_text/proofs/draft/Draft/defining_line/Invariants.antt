use Rattle.std.proofs.Common.{◌≡◌, drop}
use Rattle.std.specs.Prelude.{find}
use Rattle.bench_text.specs.declared.numbered.Entry.{Entry}
use Rattle.bench_text.specs.inner.Numbered.{defines_number}
use Rattle.bench_text.proofs.draft.Draft.defining_line.Given as goal

abbrev pub invariant-loop-entry : goal.invariant-loop-entry
invariant-loop-entry l =
    find (λ (e : Entry). defines_number l.number e.statement) (drop l.entry-index l.self.entries.items)
    ≡ find (λ (e : Entry). defines_number l.number e.statement) l.self.entries.items
