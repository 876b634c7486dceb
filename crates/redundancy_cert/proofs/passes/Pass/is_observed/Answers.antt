use Rattle.std.proofs.Common.{ap, ◌∙◌, subst}
use Rattle.netlist.specs.Conditions.{IsSound}
use Rattle.statement.specs.Netlists.{Netlist}
use Rattle.label_events.specs.Lines.{IsInner, IsPointLine}
use Rattle.redundancy_cert.specs.inner.Passing.{Labelled, IsKept}
use Rattle.redundancy_cert.proofs.PassLemmas.{observed_inner, observed_read}
use Rattle.redundancy_cert.proofs.passes.Pass.is_observed.Goals as goal

pub returns-in-Signal : goal.returns-in-Signal
returns-in-Signal c path decided =
    let kept : IsKept c.args.self.now c.self.inside.observed.items c.self.inside.counts.differing c.self.inside.counts.contradicted c.self.inside.events.trail =
    subst (λ (p : Labelled). IsKept p c.self.inside.observed.items c.self.inside.counts.differing c.self.inside.counts.contradicted c.self.inside.events.trail) c.self.view_is c.self.invariant in
    observed_inner c.args.self.now c.self.inside.observed.items c.self.inside.counts.differing c.self.inside.counts.contradicted c.self.inside.events.trail kept
    (subst IsSound (c.netlist.ensures ∙ c.core-core.ensures) c.sound.ensures) c.args.fault.now path c.in-Signal.field-0
    (subst (λ (m : Netlist). IsInner m c.args.fault.now.line c.in-Signal.field-0) c.core-core.ensures c.in-Signal.ensures)

pub returns-in-Point : goal.returns-in-Point
returns-in-Point c path decided =
    let kept : IsKept c.args.self.now c.self.inside.observed.items c.self.inside.counts.differing c.self.inside.counts.contradicted c.self.inside.events.trail =
    subst (λ (p : Labelled). IsKept p c.self.inside.observed.items c.self.inside.counts.differing c.self.inside.counts.contradicted c.self.inside.events.trail) c.self.view_is c.self.invariant in
    observed_read c.args.self.now c.self.inside.observed.items c.self.inside.counts.differing c.self.inside.counts.contradicted c.self.inside.events.trail kept
    (subst IsSound (c.netlist.ensures ∙ c.core-core.ensures) c.sound.ensures) c.args.fault.now path c.requires.stuck decided c.in-Point.x c.index.result c.values.result.now
    c.is_known_as.result (subst (λ (m : Netlist). IsPointLine m c.args.fault.now.line c.in-Point.x) c.core-core.ensures c.in-Point.ensures) c.index.ensures
    (c.values.ensures.values ∙ ap (λ (p : Labelled). p.values) c.self.view_is) c.is_known_as.ensures
