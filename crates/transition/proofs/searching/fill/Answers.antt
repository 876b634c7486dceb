use Rattle.std.proofs.Common.{arith, rules, length, get_or, ◌<◌, None, subst}
use Rattle.transition.specs.inner.Asked.{Asked, IsTask}
use Rattle.transition.proofs.BatchLemmas.{chunk_answers, answer_back}
use Rattle.transition.proofs.searching.fill.Goals as goal

pub for_each_chunk_mut-requires-clause-accepts : goal.for_each_chunk_mut-requires-clause-accepts
for_each_chunk_mut-requires-clause-accepts g c κs within start p chunk =
    let size = c.requires.size in
    let all = subst (λ (a : Asked). IsTask a c.task.inside.names.now) c.task.view_is c.task.invariant in
    let inside = chunk.in_bounds in (
      (
        c.share_size-size.ensures,
        record { within = omega arith; few = all.few },
        chunk_answers c.args.task.now _ start p.now c.requires.each chunk.in_bounds chunk.elements,
      ),
      search rules,
    )

pub returns-clause-each : goal.returns-clause-each
returns-clause-each g c = record {
  each = λ i l.
      let kept = c.for_each_chunk_mut.auto.s in
      let inside : i < length c.args.slots.now = omega arith in
      let r = (c.for_each_chunk_mut.ensures.by_index i None inside).1 in
      answer_back c.args.task.now r.start r.offset i r.after_call.now (get_or c.for_each_chunk_mut.new.s i None) r.call.1
      (let low = r.offset_in_chunk in let same = r.call.0 in omega arith) r.start_plus_offset r.new_element;
}
