use Rattle.std.proofs.Common.{length, ap, ◌∙◌, subst, arith}
use Rattle.netlist.specs.Conditions.{IsSound}
use Rattle.statement.specs.Netlists.{signals}
use Rattle.redundancy_cert.specs.inner.Tallies.{count_pairs, shows}
use Rattle.redundancy_cert.specs.inner.Passing.{Labelled}
use Rattle.redundancy_cert.proofs.KeptLemmas.{decide_counts, small_count, kept_decided}
use Rattle.redundancy_cert.proofs.passes.Pass.decide.Goals as goal

pub counted-self-inside-requires-clause-some : goal.counted-self-inside-requires-clause-some
counted-self-inside-requires-clause-some c =
    let net = ap (λ (p : Labelled). length (signals p.netlist)) c.self.view_is in
    let low = c.requires in
    let x = c.index-x.ensures in
    let r = c.self.invariant.standing.decided in
    let v = c.self.invariant.standing.size in
    let e = decide_counts c.self.inside.labelling.decided.items c.self.inside.events.values c.values.result.now c.index-x.result c.args.decision c.index.result.now
    c.self.inside.counts.contradicted c.contradicts-before.result c.contradicts-after.result (omega arith) (omega arith) c.index.ensures c.values.ensures.values
    c.contradicts-before.ensures c.contradicts-after.ensures c.self.invariant.contradicted_is in
    omega (arith, e)

pub counted-self-inside-requires-clause-small : goal.counted-self-inside-requires-clause-small
counted-self-inside-requires-clause-small c =
    small_count c.self.inside.labelling.decided.items c.self.inside.events.values c.self.inside.events.netlist c.self.inside.counts.contradicted
    (subst IsSound (c.netlist.ensures ∙ c.core.ensures) c.sound.ensures) c.self.invariant.standing.size c.self.invariant.contradicted_is

pub resettle-self-inside-requires-clause-contradicted : goal.resettle-self-inside-requires-clause-contradicted
resettle-self-inside-requires-clause-contradicted c =
    let net = ap (λ (p : Labelled). length (signals p.netlist)) c.self.view_is in
    let low = c.requires in
    let x = c.index-x.ensures in
    let r = c.self.invariant.standing.decided in
    let v = c.self.invariant.standing.size in
    let e = decide_counts c.self.inside.labelling.decided.items c.self.inside.events.values c.values.result.now c.index-x.result c.args.decision c.index.result.now
    c.self.inside.counts.contradicted c.contradicts-before.result c.contradicts-after.result (omega arith) (omega arith) c.index.ensures c.values.ensures.values
    c.contradicts-before.ensures c.contradicts-after.ensures c.self.invariant.contradicted_is in
    let h = c.counted-self-inside.ensures in
    omega (arith, e, h)

pub invariant_of-self : goal.invariant_of-self
invariant_of-self c =
    kept_decided c.self.inside.events c.resettle-self-inside.new.events c.resettle-self-inside.ensures.same c.self.inside.holds.now c.self.inside.labelling.fault
    c.self.inside.labelling.decided.items c.self.inside.observed.items c.self.inside.counts.differing c.self.inside.counts.contradicted c.self.invariant
    c.index-x.result c.args.id c.args.decision c.resettle-self-inside.result.differing c.resettle-self-inside.result.contradicted c.index-x.ensures
    c.resettle-self-inside.ensures.settled (c.resettle-self-inside.ensures.differing ∙ ap (λ ms. count_pairs shows ms c.resettle-self-inside.new.events.values) c.deref.ensures.value)
    c.resettle-self-inside.ensures.contradicted
