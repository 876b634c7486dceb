use Rattle.std.proofs.Common.{[], ◌∙◌, refl, sym, subst}
use Rattle.std.proofs.lemmas.List.{append-nil}
use Rattle.netlist.specs.Conditions.{IsSound}
use Rattle.tri.specs.declared.labels.Label.{Label}
use Rattle.tri.specs.Labels.{labels}
use Rattle.tri.specs.Labelling.{decided_in}
use Rattle.events.specs.Standing.{SettlesAnew}
use Rattle.pair_sim.proofs.Faulting.{site_within, put_there, put_nowhere, nothing_changed}
use Rattle.pair_sim.proofs.steps.settle_site.Goals as goal

pub change-requires-clause-within : goal.change-requires-clause-within
change-requires-clause-within c =
    let sound : IsSound c.args.events.now.netlist = subst IsSound (c.netlist-netlist.ensures ∙ c.core.ensures) c.sound.ensures in
    site_within c.args.events.now.netlist sound c.args.line.now c.requires.line c.in-Some.id (sym c.site.ensures ∙ c.in-Some.is)

pub returns-in-None : goal.returns-in-None
returns-in-None c =
    let s = c.args.events.now in
    let b = c.args.labelling.now in
    record {
      netlist = refl;
      room = refl;
      changes = [];
      trail = sym (append-nil s.trail);
      are_changes = nothing_changed s.values;
      labelled = λ f same was. put_nowhere c.args.line.now f b.fault (decided_in b.decided.items) s.netlist c.args.holds.now same s.values s.values (sym c.site.ensures ∙ c.in-None.is) was;
    }

pub returns-in-Some : goal.returns-in-Some
returns-in-Some c =
    let s = c.args.events.now in
    let b = c.args.labelling.now in
    let holds = c.args.holds.now in
    let x = c.in-Some.id in
    let sound : IsSound s.netlist = subst IsSound (c.netlist-netlist.ensures ∙ c.core.ensures) c.sound.ensures in
    record {
      netlist = c.change.ensures.moves.netlist;
      room = c.change.ensures.moves.room;
      changes = c.change.ensures.moves.changes;
      trail = c.change.ensures.moves.trail;
      are_changes = c.change.ensures.moves.are_changes;
      labelled = λ f same was. put_there c.args.line.now f b.fault (decided_in b.decided.items) s.netlist holds same s.values c.change.new.self.values sound c.requires.holds x
          (sym c.site.ensures ∙ c.in-Some.is)
          (subst (λ (l : Label). SettlesAnew (labels b.fault (decided_in b.decided.items)) s.netlist x l s.values c.change.new.self.values) c.driven_onto-driven.ensures c.change.ensures.settles)
          c.change.ensures.moves.are_changes.size was;
    }
