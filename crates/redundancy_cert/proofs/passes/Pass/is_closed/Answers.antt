use Rattle.std.proofs.Common.{sym, ◌∙◌, ◌<◌, ◌≤◌, subst}
use Rattle.std.specs.Bool.{MatchBool}
use Rattle.std.proofs.lemmas.Bool.{lt-ltb}
use Rattle.netlist.specs.Conditions.{IsSound}
use Rattle.tri.specs.Paths.{IsClosedPath}
use Rattle.redundancy_cert.specs.inner.Passing.{Labelled, IsKept}
use Rattle.redundancy_cert.proofs.PassLemmas.{contradicted_some, closed_else}
use Rattle.redundancy_cert.proofs.passes.Pass.is_closed.Goals as goal

pub returns-then-self-gt0 : goal.returns-then-self-gt0
returns-then-self-gt0 c path decided =
    let kept : IsKept c.args.self.now c.self.inside.observed.items c.self.inside.counts.differing c.self.inside.counts.contradicted c.self.inside.events.trail =
    subst (λ (p : Labelled). IsKept p c.self.inside.observed.items c.self.inside.counts.differing c.self.inside.counts.contradicted c.self.inside.events.trail) c.self.view_is c.self.invariant in
    let some : 0 < c.self.inside.counts.contradicted = c.if-self-gt0.true in
    subst (λ b. MatchBool b (IsClosedPath c.args.fault.now c.args.self.now.netlist c.args.self.now.holds path) (¬ IsClosedPath c.args.fault.now c.args.self.now.netlist c.args.self.now.holds path))
    (sym (lt-ltb 0 c.self.inside.counts.contradicted some))
    (contradicted_some c.args.self.now c.self.inside.observed.items c.self.inside.counts.differing c.self.inside.counts.contradicted c.self.inside.events.trail kept
    (subst IsSound (c.netlist.ensures ∙ c.core.ensures) c.sound.ensures) c.args.fault.now path c.requires.stuck decided some)

pub returns-else-self-gt0 : goal.returns-else-self-gt0
returns-else-self-gt0 c path decided =
    let kept : IsKept c.args.self.now c.self.inside.observed.items c.self.inside.counts.differing c.self.inside.counts.contradicted c.self.inside.events.trail =
    subst (λ (p : Labelled). IsKept p c.self.inside.observed.items c.self.inside.counts.differing c.self.inside.counts.contradicted c.self.inside.events.trail) c.self.view_is c.self.invariant in
    let none : c.self.inside.counts.contradicted ≤ 0 = c.if-self-gt0.false in
    closed_else c.args.self.now c.self.inside.observed.items c.self.inside.counts.differing c.self.inside.counts.contradicted c.self.inside.events.trail kept
    (subst IsSound (c.netlist.ensures ∙ c.core.ensures) c.sound.ensures) c.args.fault.now path c.requires.stuck decided none c.is_observed.result (c.is_observed.ensures path decided)
