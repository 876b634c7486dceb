use Rattle.std.proofs.Common.{◌≡◌, ◌∙◌, ◌++◌, length, map, take, drop, ap, sym, subst, arith}
use Rattle.std.proofs.lemmas.List.{take_at, length-map}
use Rattle.transition.specs.inner.Asked.{Asked, IsTask}
use Rattle.transition.specs.inner.Slots.{AreAnswersFrom, first_slot}
use Rattle.transition.proofs.BatchLemmas.{first_answers, answers_within}
use Rattle.transition.proofs.Gathering.{found_left, if_ok_then}
use Rattle.transition.proofs.searching.answers_of.Goals as goal

pub fill-requires-clause-size : goal.fill-requires-clause-size
fill-requires-clause-size g c κs within =
    let all = subst (λ (a : Asked). IsTask a c.task.inside.names.now) c.task.view_is c.task.invariant in
    ap length (c.as_mut_slice.ensures.value ∙ c.in_ok-slots.ensures)
    ∙ (length-map c.task.inside.left.now first_slot ∙ (ap (λ (a : Asked). length a.left) c.task.view_is ∙ all.size))

pub fill-requires-clause-each : goal.fill-requires-clause-each
fill-requires-clause-each g c κs within =
    let a = c.args.task.now in
    let slots = c.as_mut_slice.ensures.value ∙ (c.in_ok-slots.ensures ∙ ap (λ (b : Asked). map first_slot b.left) c.task.view_is) in
    subst (AreAnswersFrom a 0) (sym slots) (first_answers a)

pub returns : goal.returns
returns g c =
    let a = c.args.task.now in
    let all = subst (λ (b : Asked). IsTask b c.task.inside.names.now) c.task.view_is c.task.invariant in
    let slots = c.in_ok-slots.slots in
    let now = c.fill.new.slots in
    let made : length slots.items ≡ length a.faults =
    ap length c.in_ok-slots.ensures ∙ (length-map c.task.inside.left.now first_slot ∙ (ap (λ (b : Asked). length b.left) c.task.view_is ∙ all.size)) in
    let kept : length now ≡ length a.faults = c.fill.ensures.count ∙ (ap length c.as_mut_slice.ensures.value ∙ made) in
    let whole : take slots.len (now ++ drop (length now) slots.items) ≡ now = take_at now (drop (length now) slots.items) slots.len (let l = slots.ok.0 in omega arith) in
    if_ok_then c.gathered.result _ _ c.gathered.ensures (λ v h. found_left a now v.items kept (answers_within a now kept c.fill.ensures.each) (h ∙ whole))
