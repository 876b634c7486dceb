use Rattle.std.proofs.Common.{◌∙◌, ap, length, arith, List, ℕ}
use Rattle.std.proofs.Common.{◌≡◌}
use Rattle.stil_write.proofs.ItemLemmas.{count_at, count_in, start, stop}
use Rattle.stil_write.proofs.items.Items.word_count.Goals as goal

pub span-start-requires : goal.span-start-requires
span-start-requires c =
    let n = count_in c.self.inside.kinds.items c.self.inside.words c.self.inside.ends.items c.args.self.now c.self.invariant c.self.view_is in
    let e = ap length c.deref.ensures.value in
    omega (arith, n, e)

pub overflow_sub-result : goal.overflow_sub-result
overflow_sub-result c =
    let k = count_at c.self.inside.kinds.items c.self.inside.words c.self.inside.ends.items c.args.self.now c.args.place c.self.invariant c.self.view_is c.requires in
    let a : c.span-start.result.0 ≡ start c.self.inside.ends.items c.args.place = c.span-start.ensures.start ∙ ap (λ (es : List ℕ). start es c.args.place) c.deref.ensures.value in
    let b : c.span-start.result.1 ≡ stop c.self.inside.ends.items c.args.place = c.span-start.ensures.end ∙ ap (λ (es : List ℕ). stop es c.args.place) c.deref.ensures.value in
    let l = k.0 in
    omega (arith, a, b, l)

pub returns : goal.returns
returns c =
    let k = count_at c.self.inside.kinds.items c.self.inside.words c.self.inside.ends.items c.args.self.now c.args.place c.self.invariant c.self.view_is c.requires in
    let a : c.span-start.result.0 ≡ start c.self.inside.ends.items c.args.place = c.span-start.ensures.start ∙ ap (λ (es : List ℕ). start es c.args.place) c.deref.ensures.value in
    let b : c.span-start.result.1 ≡ stop c.self.inside.ends.items c.args.place = c.span-start.ensures.end ∙ ap (λ (es : List ℕ). stop es c.args.place) c.deref.ensures.value in
    let l = k.2 in
    omega (arith, a, b, l)
