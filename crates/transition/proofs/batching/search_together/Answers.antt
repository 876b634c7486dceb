use Rattle.std.proofs.Common.{◌≡◌, ◌+◌, ◌∙◌, List, take, ap, sym, subst, rules}
use Rattle.netlist.specs.Conditions.{IsSound}
use Rattle.evidence.specs.declared.engine.Found.{Found}
use Rattle.transition_batches.specs.Batches.{batch_fault, batch_of}
use Rattle.transition.specs.inner.Asked.{AreAnswers, Asked, IsTask}
use Rattle.transition.proofs.BatchLemmas.{carried, held_in_batch, one_found, tie_line}
use Rattle.transition.proofs.batching.search_together.Goals as goal

pub room-requires : goal.room-requires
room-requires g c =
    let t = c.task.inside in
    held_in_batch t.netlist.now c.args.slow.now c.args.core.now t.holds.now (c.requires.core ∙ ap (λ (a : Asked). batch_of a.netlist c.args.slow.now) (sym c.task.view_is)) c.task.invariant.held

pub loop-j-init : goal.loop-j-init
loop-j-init g c = record {
  room = subst (λ (a : Asked). g.E.Engine.serves c.args.core.now a.holds c.in_ok-room.room) c.task.view_is c.in_ok-room.ensures;
  found = search rules;
}

pub search_tie-requires-clause-holds : goal.search_tie-requires-clause-holds
search_tie-requires-clause-holds g c κs within =
    let a = c.args.task.now in
    let all = subst (λ (b : Asked). IsTask b c.task.inside.names.now) c.task.view_is c.task.invariant in
    held_in_batch a.netlist c.args.slow.now c.args.core.now a.holds c.requires.core all.held

pub search_tie-requires-clause-tie : goal.search_tie-requires-clause-tie
search_tie-requires-clause-tie g c κs within =
    let f = c.index-slow-j.result in
    let is = subst (λ (a : Asked). c.tie_fault-tie.result ≡ batch_fault a.netlist c.loop-j.j f) c.task.view_is c.tie_fault-tie.ensures in
    tie_line c.args.task.now.netlist c.args.slow.now c.loop-j.j f c.args.core.now c.tie_fault-tie.result c.requires.core (subst IsSound c.netlist.ensures c.sound-2.ensures)
    c.loop-j-test.true is

pub search_tie-requires-clause-carries : goal.search_tie-requires-clause-carries
search_tie-requires-clause-carries g c κs within found =
    let f = c.index-slow-j.result in
    let all = subst (λ (b : Asked). IsTask b c.task.inside.names.now) c.task.view_is c.task.invariant in
    let is = subst (λ (a : Asked). c.tie_fault-tie.result ≡ batch_fault a.netlist c.loop-j.j f) c.task.view_is c.tie_fault-tie.ensures in
    carried c.batch_carries.ensures c.args.task.now c.args.slow.now c.loop-j.j f c.args.core.now c.tie_fault-tie.result
    (subst (λ (b : Asked). IsSound b.netlist) c.task.view_is c.sound.ensures) all.design c.requires.together c.requires.core
    (subst IsSound c.netlist.ensures c.sound-2.ensures) is c.loop-j-test.true (sym c.index-slow-j.is) found

pub loop-j-preserved : goal.loop-j-preserved
loop-j-preserved g c = record {
  room = c.in_ok-answer.ensures.room;
  found = subst (λ (xs : List Found). AreAnswers c.args.task.now (take (c.loop-j.j + 1) c.args.slow.now) xs) (sym c.in_ok-push.ensures.items)
      (one_found c.args.task.now c.args.slow.now c.loop-j.answers.items c.loop-j.j c.index-slow-j.result c.in_ok-answer.answer c.loop-j.invariant.found c.loop-j-test.true
      (sym c.index-slow-j.is) c.in_ok-answer.ensures.answer);
}
