use Rattle.std.proofs.Common.{arith, refl, ◌∙◌}
use Rattle.bench_text.specs.declared.numbered.Entry.{Entry}
use Rattle.bench_text.specs.inner.Numbered.{spelling_of}
use Rattle.bench_text.specs.Netlists.{equation}
use Rattle.bench_text.specs.inner.Drafted.{names_seen, signals_in}
use Rattle.bench_text.proofs.PartLemmas.{item-of, line-read, line-defined, flat-more, walked, equations-of}
use Rattle.bench_text.proofs.draft.Draft.equations.Goals as goal

pub push_equation-requires-clause-reads : goal.push_equation-requires-clause-reads
push_equation-requires-clause-reads c =
    let s = c.args.self.now in
    line-read _ _ _ _ _ _ s.sound c.requires.reads _ c.entry-item.result (omega (arith, c.loop-entry-test.true, c.deref-entry-items.ensures.len, s.entries.ok.0))
    (item-of s.entries.items _ _ _ c.deref-entry-items.ensures.value c.entry-item.is)

pub push_equation-requires-clause-defined : goal.push_equation-requires-clause-defined
push_equation-requires-clause-defined c =
    let s = c.args.self.now in
    line-defined _ _ _ _ _ _ s.sound _ c.entry-item.result (omega (arith, c.loop-entry-test.true, c.deref-entry-items.ensures.len, s.entries.ok.0))
    (item-of s.entries.items _ _ _ c.deref-entry-items.ensures.value c.entry-item.is)

pub loop-entry-preserved : goal.loop-entry-preserved
loop-entry-preserved c =
    let s = c.args.self.now in
    flat-more (λ (e : Entry). equation (signals_in s) (spelling_of (names_seen s) e.statement)) s.entries.items _ c.entry-item.result _ _ _
    (omega (arith, c.loop-entry-test.true, c.deref-entry-items.ensures.len, s.entries.ok.0)) (item-of s.entries.items _ _ _ c.deref-entry-items.ensures.value c.entry-item.is)
    c.loop-entry.invariant refl c.in_ok-push_equation.ensures

pub returns : goal.returns
returns c =
    let s = c.args.self.now in
    walked (λ (e : Entry). equation (signals_in s) (spelling_of (names_seen s) e.statement)) s.entries.items _ _ (omega (arith, c.loop-entry-test.false, c.deref-entry-items.ensures.len, s.entries.ok.0)) c.loop-entry.invariant
    ∙ equations-of _ _ _ _ _ _ s.sound
