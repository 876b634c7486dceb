use Rattle.std.proofs.Common.{ap, sym, ◌∙◌, subst}
use Rattle.netlist.specs.Conditions.{IsSound}
use Rattle.netlist.specs.Settled.{at}
use Rattle.redundancy_cert.specs.inner.Passing.{Labelled, AreStanding, no_label}
use Rattle.redundancy_cert.proofs.PassLemmas.{unknown_from, known_from}
use Rattle.redundancy_cert.proofs.passes.Pass.is_unknown.Goals as goal

pub returns-in-X : goal.returns-in-X
returns-in-X c f path stuck decided =
    let stands : AreStanding c.args.self.now = subst AreStanding c.self.view_is c.self.invariant.standing in
    let vs = c.values.ensures.values ∙ ap (λ (p : Labelled). p.values) c.self.view_is in
    unknown_from c.args.self.now stands f path stuck decided c.args.x c.requires
    (sym (ap (λ vs. (at vs no_label c.index.result).good) vs ∙ ap (λ i. (at c.args.self.now.values no_label i).good) c.index.ensures) ∙ c.in-X.is)

pub returns-in_default : goal.returns-in_default
returns-in_default c f path stuck decided =
    let stands : AreStanding c.args.self.now = subst AreStanding c.self.view_is c.self.invariant.standing in
    let vs = c.values.ensures.values ∙ ap (λ (p : Labelled). p.values) c.self.view_is in
    known_from c.args.self.now stands f path stuck decided (subst IsSound (c.netlist.ensures ∙ c.core.ensures) c.sound.ensures) c.args.x
    (λ e. c.in_default.not-X ((ap (λ vs. (at vs no_label c.index.result).good) vs ∙ ap (λ i. (at c.args.self.now.values no_label i).good) c.index.ensures) ∙ e))
