use Rattle.std.proofs.Common.{◌++◌, List, Option, Some, refl, sym, ◌∙◌, ap, subst}
use Rattle.statement.specs.declared.lines.Fault.{Fault}
use Rattle.tri.specs.declared.labels.Label.{Label}
use Rattle.events.specs.declared.trails.Change.{Change}
use Rattle.events.specs.Trails.{AreChanges}
use Rattle.label_events.specs.Lines.{AgreeOnOtherLines}
use Rattle.label_events.proofs.Changing.{same_off}
use Rattle.pair_sim.proofs.steps.set_fault.Goals as goal

pub returns : goal.returns
returns c =
    let s = c.args.events.now in
    let s' = c.settle_site.new.events in
    let f = c.args.fault.now in
    record {
      fault_is = refl;
      row = refl;
      netlist = c.settle_site.ensures.netlist;
      room = c.settle_site.ensures.room;
      are_changes = subst (λ (t : List (Change Label)). AreChanges s.values s'.values t)
          (sym (c.settle_site.ensures.trail ∙ ap (λ (t : List (Change Label)). t ++ c.settle_site.ensures.changes) c.requires.empty)) c.settle_site.ensures.are_changes;
      labelled = c.settle_site.ensures.labelled c.args.labelling.now.fault (subst (λ (o : Option Fault). AgreeOnOtherLines f.line o (Some f)) (sym c.requires.none) (same_off f));
    }
