use Rattle.std.proofs.Common.{arith}
use Rattle.bench_text.proofs.PartLemmas.{input-place, definition-place, not-read}
use Rattle.bench_text.proofs.draft.Draft.id.Goals as goal

pub overflow_cast-place : goal.overflow_cast-place
overflow_cast-place c =
    let p = input-place _ _ _ _ _ _ c.args.self.now.sound c.args.number _ _ c.requires.seen c.index.ensures c.in-Input.is in
    omega (arith, p.1, c.requires.few)

pub returns-in-Input : goal.returns-in-Input
returns-in-Input c = (input-place _ _ _ _ _ _ c.args.self.now.sound c.args.number _ _ c.requires.seen c.index.ensures c.in-Input.is).0

pub overflow_cast-result : goal.overflow_cast-result
overflow_cast-result c =
    let s = c.args.self.now in
    let p = definition-place _ _ _ _ _ _ s.sound c.args.number _ c.len.result _ c.requires.seen c.index.ensures c.in-Definition.is (omega (arith, c.len.ensures, s.inputs.ok.0)) in
    omega (arith, p.1, c.requires.few)

pub overflow_add-result : goal.overflow_add-result
overflow_add-result c =
    let s = c.args.self.now in
    let p = definition-place _ _ _ _ _ _ s.sound c.args.number _ c.len.result _ c.requires.seen c.index.ensures c.in-Definition.is (omega (arith, c.len.ensures, s.inputs.ok.0)) in
    omega (arith, p.1, c.requires.few)

pub returns-in-Definition : goal.returns-in-Definition
returns-in-Definition c =
    let s = c.args.self.now in
    (definition-place _ _ _ _ _ _ s.sound c.args.number _ c.len.result _ c.requires.seen c.index.ensures c.in-Definition.is (omega (arith, c.len.ensures, s.inputs.ok.0))).0

pub unreachable-requires : goal.unreachable-requires
unreachable-requires c = not-read _ _ _ _ _ _ c.args.self.now.sound c.args.number _ c.requires.seen c.index.ensures c.requires.defined c.in-Read.is
