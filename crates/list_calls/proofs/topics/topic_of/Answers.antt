use Rattle.std.proofs.Common.{◌≡◌, ◌∙◌, refl, ap, subst, sym}
use Rattle.std.proofs.lemmas.List.{length-map}
use Rattle.statement.specs.Patterns.{Holds}
use Rattle.netlist.specs.Holds.{AreHoldsOf}
use Rattle.list_core.specs.Subjects.{Subject}
use Rattle.list_calls.proofs.topics.topic_of.Goals as goal

pub invariant_of-result : goal.invariant_of-result
invariant_of-result g c =
    let p = c.plan.inside in
    let i = c.plan.invariant in
    let told : g.J.About.subject ≡ record { netlist = p.core.now; faults = p.faults.now; limit = p.limit; holds = p.holds.now; refutes = c.args.refutes } =
    c.requires ∙ ap (λ (j : Subject). record j { refutes = c.args.refutes }) (sym c.plan.view_is) in
    let are : AreHoldsOf p.core.now p.holds.now = subst (AreHoldsOf p.core.now) (sym i.3) (simp length-map) in
    rw told ((refl, i.0, i.2, refl, are, refl), refl, i.1, refl, i.3)
