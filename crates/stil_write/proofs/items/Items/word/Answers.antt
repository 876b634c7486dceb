use Rattle.std.proofs.Common.{◌∙◌, ◌≡◌, ◌+◌, ap, length, arith, sym, List, ℕ}
use Rattle.std.specs.Prelude.{Some, slice_get}
use Rattle.stil_write.proofs.ItemLemmas.{count_at, count_in, start, stop, word_at}
use Rattle.stil_write.proofs.items.Items.word.Goals as goal

pub span-start-requires : goal.span-start-requires
span-start-requires c =
    let n = count_in c.self.inside.kinds.items c.self.inside.words c.self.inside.ends.items c.args.self.now c.self.invariant c.self.view_is in
    let e = ap length c.deref.ensures.value in
    let l = c.requires.item in
    omega (arith, n, e, l)

pub overflow_add-start : goal.overflow_add-start
overflow_add-start c =
    let k = count_at c.self.inside.kinds.items c.self.inside.words c.self.inside.ends.items c.args.self.now c.args.place c.self.invariant c.self.view_is c.requires.item in
    let a : c.span-start.result.0 ≡ start c.self.inside.ends.items c.args.place = c.span-start.ensures.start ∙ ap (λ (es : List ℕ). start es c.args.place) c.deref.ensures.value in
    let b : c.span-start.result.1 ≡ stop c.self.inside.ends.items c.args.place = c.span-start.ensures.end ∙ ap (λ (es : List ℕ). stop es c.args.place) c.deref.ensures.value in
    let l = k.2 in let w = c.requires.word in
    omega (arith, a, b, l, w)

pub get-requires : goal.get-requires
get-requires c =
    let k = count_at c.self.inside.kinds.items c.self.inside.words c.self.inside.ends.items c.args.self.now c.args.place c.self.invariant c.self.view_is c.requires.item in
    let a : c.span-start.result.0 ≡ start c.self.inside.ends.items c.args.place = c.span-start.ensures.start ∙ ap (λ (es : List ℕ). start es c.args.place) c.deref.ensures.value in
    let l = k.2 in let m = k.1 in let w = c.requires.word in
    omega (arith, a, l, m, w)

pub returns : goal.returns
returns c =
    let a : c.span-start.result.0 ≡ start c.self.inside.ends.items c.args.place = c.span-start.ensures.start ∙ ap (λ (es : List ℕ). start es c.args.place) c.deref.ensures.value in
    let here : slice_get c.self.inside.words (start c.self.inside.ends.items c.args.place + c.args.word) ≡ Some c.get.result.now =
    ap (λ n. slice_get c.self.inside.words (n + c.args.word)) (sym a) ∙ c.get.ensures in
    word_at c.self.inside.kinds.items c.self.inside.words c.self.inside.ends.items c.args.self.now c.args.place c.args.word c.get.result.now c.self.invariant c.self.view_is c.requires.item c.requires.word here
