use Rattle.std.proofs.Common.{◌≡◌, subst}
use Rattle.std.specs.List.{All}
use Rattle.statement.specs.Netlists.{Netlist}
use Rattle.statement.specs.Patterns.{Holds}
use Rattle.netlist.specs.Holds.{none_held}
use Rattle.word_sim.specs.Hits.{AreHits}
use Rattle.worker.proofs.WorkLemmas.{true_batch}
use Rattle.list_calls.proofs.ListLemmas.{are_patterns}
use Rattle.list_calls.proofs.from_texts.batch_with.Goals as goal

pub returns-in-Ok : goal.returns-in-Ok
returns-in-Ok g c =
    let j = g.J.About.subject in
    let t = c.topic.invariant in
    let patterns = c.args.patterns.items in
    let none = subst (λ (h : Holds). h ≡ none_held j.netlist) t.0.3 (subst (λ (m : Netlist). c.topic.inside.holds.now ≡ none_held m) t.0.0 t.4) in
    rw c.new.ensures (true_batch j patterns c.classes.result.now c.in-Ok.hits.items (are_patterns j.netlist j.holds patterns none c.requires.wide) c.classes.ensures.represent c.classes.ensures.ascend
    (subst (λ (m : Netlist). AreHits m patterns c.classes.result.now c.in-Ok.hits.items) t.0.0 (rw c.deref.ensures.value at c.in-Ok.ensures)))
