use Rattle.std.proofs.Common.{◌∙◌, ◌-◌, ◌<◌, ◌≤◌, ℕ, List, take, drop, length, sym, ap, subst, arith}
use Rattle.std.specs.List.{All}
use Rattle.std.proofs.lemmas.List.{length-take}
use Rattle.statement.specs.declared.lines.Fault.{Fault}
use Rattle.netlist.specs.Lines.{IsLineOf}
use Rattle.word_sim.specs.declared.batches.Hit.{Hit}
use Rattle.word_sim.specs.Hits.{AreHits}
use Rattle.word_sim.specs.inner.Found.{untold}
use Rattle.word_sim.proofs.Untold.{untold_lines, hits_small}
use Rattle.word_sim.proofs.last_detected.tell_part.Goals as goal

pub batch_hits-requires-clause-lines : goal.batch_hits-requires-clause-lines
batch_hits-requires-clause-lines c =
    subst (λ (gs : List (ℕ × Fault)). All (λ (g : ℕ × Fault). IsLineOf c.args.simulator.now g.1.line) gs) (sym (c.deref-2.ensures.value ∙ c.in_ok-list_untold.ensures))
    (untold_lines c.args.simulator.now 0 c.args.faults.now c.deref.result.now c.requires.lines)

pub tell_all-requires-clause-small : goal.tell_all-requires-clause-small
tell_all-requires-clause-small c =
    let t = length-take (c.args.end - c.args.start) (drop c.args.start c.args.patterns.now) in
    let few = c.requires.few in
    let short : length (take (c.args.end - c.args.start) (drop c.args.start c.args.patterns.now)) ≤ 64 = omega arith in
    subst (All (λ (h : Hit). h.pattern < 64)) (sym c.deref-3.ensures.value)
    (hits_small c.args.simulator.now (take (c.args.end - c.args.start) (drop c.args.start c.args.patterns.now)) c.deref-2.result.now c.in_ok-hits.hits.items short c.in_ok-hits.ensures.hits)

pub returns-clause-told : goal.returns-clause-told
returns-clause-told c =
    c.tell_all.ensures c.args.simulator.now c.args.patterns.now c.args.end c.requires.order
    (subst (AreHits c.args.simulator.now (take (c.args.end - c.args.start) (drop c.args.start c.args.patterns.now)) (untold 0 c.args.faults.now c.args.told.now.items)) (sym c.deref-3.ensures.value)
    (subst (λ (gs : List (ℕ × Fault)). AreHits c.args.simulator.now (take (c.args.end - c.args.start) (drop c.args.start c.args.patterns.now)) gs c.in_ok-hits.hits.items)
    (c.deref-2.ensures.value ∙ (c.in_ok-list_untold.ensures ∙ ap (untold 0 c.args.faults.now) c.deref.ensures.value)) c.in_ok-hits.ensures.hits))
    c.requires.later
