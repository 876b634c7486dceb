use Rattle.std.proofs.Common.{◌∙◌, sym, arith}
use Rattle.word_sim.proofs.Spreading.{four_within, four_apart}
use Rattle.word_sim.proofs.lanes.can_turn.Goals as goal

pub returns-clause-within : goal.returns-clause-within
returns-clause-within c = λ _.
    let t = c.args.turned.now in
    let a = c.index-a.ensures in
    let b = c.index-b.ensures in
    let e = c.index-c.ensures in
    let d = c.index-d.ensures in
    let la = c.if-a-count.false in
    let lb = c.if-b-count.false in
    let lc = c.if-c-count.false in
    let ld = c.if-d-count.false in
    four_within t.a.signal t.b.signal t.c.signal t.d.signal c.args.count (omega arith) (omega arith) (omega arith) (omega arith)

pub returns-clause-distinct : goal.returns-clause-distinct
returns-clause-distinct c = λ _.
    let t = c.args.turned.now in
    let a = c.index-a.ensures in
    let b = c.index-b.ensures in
    let e = c.index-c.ensures in
    let d = c.index-d.ensures in
    four_apart t.a.signal t.b.signal t.c.signal t.d.signal
    (λ s. c.if-a-b.false (a ∙ (s ∙ sym b))) (λ s. c.if-a-c.false (a ∙ (s ∙ sym e))) (λ s. c.if-a-d.false (a ∙ (s ∙ sym d)))
    (λ s. c.if-b-c.false (b ∙ (s ∙ sym e))) (λ s. c.if-b-d.false (b ∙ (s ∙ sym d))) (λ s. c.if-c-d.false (e ∙ (s ∙ sym d)))
