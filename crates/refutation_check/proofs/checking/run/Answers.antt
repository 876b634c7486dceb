use Rattle.std.proofs.Common.{List, Bool, ap, ◌∙◌}
use Rattle.refutation.specs.Refutations.{start}
use Rattle.refutation_check.specs.inner.Marks.{is_marked}
use Rattle.refutation_check.proofs.TrailLemmas.{grows_then}
use Rattle.refutation_check.proofs.StartLemmas.{answer_from}
use Rattle.refutation_check.proofs.checking.run.Goals as goal

pub returns-clause-grows : goal.returns-clause-grows
returns-clause-grows c = grows_then c.args.sets.now c.start.new.sets c.check_steps.new.sets c.in-Ok-start.ensures.grows c.check_steps.ensures.grows

pub returns-clause-answer : goal.returns-clause-answer
returns-clause-answer c =
    let f = c.args.fault.now in
    let n = c.args.netlist.now in
    let holds = c.args.holds.now in
    answer_from f n holds c.args.steps.now (is_marked c.reach.new.marks.items) c.start.new.sets.told c.check_steps.result c.in-Ok.ensures.cone
    (c.in-Ok-start.ensures.told ∙ ap (λ (marks : List Bool). start n holds f (is_marked marks)) c.deref.ensures.value) c.check_steps.ensures.answer
