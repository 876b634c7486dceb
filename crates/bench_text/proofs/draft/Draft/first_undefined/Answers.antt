use Rattle.std.proofs.Common.{arith, sym, ◌∙◌}
use Rattle.bench_text.specs.inner.Drafted.{names_seen, signals_in}
use Rattle.bench_text.proofs.WholeLemmas.{undefined-here, undefined-none}
use Rattle.bench_text.proofs.draft.Draft.first_undefined.Goals as goal

pub returns-then-not-reads_defined : goal.returns-then-not-reads_defined
returns-then-not-reads_defined c =
    let s = c.args.self.now in
    undefined-here (names_seen s) (signals_in s) s.entries.items _ _ c.entry-item.result c.deref-entry-items.ensures.value (omega (arith, c.loop-entry-test.true, c.deref-entry-items.ensures.len, s.entries.ok.0)) c.entry-item.is
    c.loop-entry.invariant (sym c.reads_defined.ensures ∙ c.if-not-reads_defined.true)

pub returns : goal.returns
returns c =
    let s = c.args.self.now in
    undefined-none (names_seen s) (signals_in s) s.entries.items _ (omega (arith, c.loop-entry-test.false, c.deref-entry-items.ensures.len, s.entries.ok.0)) c.loop-entry.invariant
