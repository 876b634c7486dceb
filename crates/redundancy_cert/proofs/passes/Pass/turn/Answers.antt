use Rattle.std.proofs.Common.{ap, sym, ◌∙◌, subst}
use Rattle.netlist.specs.Conditions.{IsSound}
use Rattle.netlist.specs.Lines.{IsLineOf}
use Rattle.statement.specs.Netlists.{Netlist}
use Rattle.label_events.specs.Lines.{IsInner, IsPointLine, AgreeOnOtherLines}
use Rattle.redundancy_cert.specs.inner.Tallies.{count_pairs, shows}
use Rattle.redundancy_cert.specs.inner.Passing.{Labelled}
use Rattle.redundancy_cert.proofs.KeptLemmas.{kept_stuck, kept_off, inner_signal}
use Rattle.redundancy_cert.proofs.passes.Pass.turn.Goals as goal

pub resettle-self-inside-requires-clause-within : goal.resettle-self-inside-requires-clause-within
resettle-self-inside-requires-clause-within c =
    inner_signal c.self.inside.events.netlist (subst IsSound (c.netlist.ensures ∙ c.core.ensures) c.sound.ensures) c.args.line.now c.in-Signal.id
    (subst (λ (p : Labelled). IsLineOf p.netlist c.args.line.now) (sym c.self.view_is) c.requires.line)
    (subst (λ (m : Netlist). IsInner m c.args.line.now c.in-Signal.id) c.core-2.ensures c.in-Signal.ensures)

pub invariant_of-self : goal.invariant_of-self
invariant_of-self c =
    let inner : IsInner c.self.inside.events.netlist c.args.line.now c.in-Signal.id = subst (λ (m : Netlist). IsInner m c.args.line.now c.in-Signal.id) c.core-2.ensures c.in-Signal.ensures in
    kept_stuck c.self.inside.events c.resettle-self-inside.new.events c.resettle-self-inside.ensures.same c.self.inside.holds.now c.self.inside.labelling.fault
    c.self.inside.labelling.decided.items c.self.inside.observed.items c.self.inside.counts.differing c.self.inside.counts.contradicted c.self.invariant
    c.args.line.now c.args.fault c.in-Signal.id c.resettle-self-inside.result.differing c.resettle-self-inside.result.contradicted
    (subst (λ (p : Labelled). AgreeOnOtherLines c.args.line.now p.fault c.args.fault) (sym c.self.view_is) c.requires.same) inner.others
    c.resettle-self-inside.ensures.settled (c.resettle-self-inside.ensures.differing ∙ ap (λ ms. count_pairs shows ms c.resettle-self-inside.new.events.values) c.deref.ensures.value)
    c.resettle-self-inside.ensures.contradicted

pub invariant_of-self-in_default : goal.invariant_of-self-in_default
invariant_of-self-in_default c =
    let read : IsPointLine c.self.inside.events.netlist c.args.line.now c.in_default.field-0 = subst (λ (m : Netlist). IsPointLine m c.args.line.now c.in_default.field-0) c.core-2.ensures c.in_default.ensures in
    kept_off c.self.inside.events c.self.inside.holds.now c.self.inside.labelling.fault c.args.fault c.self.inside.labelling.decided.items c.self.inside.observed.items
    c.self.inside.counts.differing c.self.inside.counts.contradicted c.args.line.now c.self.invariant
    (subst (λ (p : Labelled). AgreeOnOtherLines c.args.line.now p.fault c.args.fault) (sym c.self.view_is) c.requires.same) read.off
