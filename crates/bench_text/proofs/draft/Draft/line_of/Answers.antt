use Rattle.std.proofs.Common.{◌≡◌, length, arith, subst}
use Rattle.bench_text.specs.inner.Drafted.{notes_in}
use Rattle.bench_text.specs.inner.Loops.{IsDefinedAt}
use Rattle.bench_text.proofs.LoopLemmas.{place-below, never-missing, defined-at}
use Rattle.bench_text.proofs.draft.Draft.line_of.Goals as goal

pub index-number-requires : goal.index-number-requires
index-number-requires c =
    let s = c.args.self.now in
    let count : c.len.result ≡ length s.inputs.items = omega (arith, c.len.ensures, s.inputs.ok.0) in
    let k = place-below _ _ _ _ _ _ s.sound c.len.result c.args.signal count c.requires.defined c.requires.within in
    omega (arith, k, c.index.ensures, s.definitions.ok.0)

pub unreachable-requires : goal.unreachable-requires
unreachable-requires c =
    let s = c.args.self.now in
    let count : c.len.result ≡ length s.inputs.items = omega (arith, c.len.ensures, s.inputs.ok.0) in
    never-missing _ _ _ _ _ _ s.sound c.len.result c.index.result c.index-number.result.now count (omega (arith, c.index.ensures, c.requires.defined)) (omega (arith, c.index.ensures, c.requires.within)) c.index-number.ensures c.in-None.ensures

pub returns : goal.returns
returns c =
    let s = c.args.self.now in
    let count : c.len.result ≡ length s.inputs.items = omega (arith, c.len.ensures, s.inputs.ok.0) in
    subst (λ z. IsDefinedAt (notes_in s) z c.in-Some.line) c.index.ensures
    (defined-at _ _ _ _ _ _ s.sound c.len.result c.index.result c.index-number.result.now count (omega (arith, c.index.ensures, c.requires.defined)) (omega (arith, c.index.ensures, c.requires.within)) c.index-number.ensures c.in-Some.line c.in-Some.ensures)
