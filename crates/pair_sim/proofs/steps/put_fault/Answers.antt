use Rattle.std.proofs.Common.{List, ◌∙◌, refl, sym, ap, subst}
use Rattle.tri.specs.declared.labels.Label.{Label}
use Rattle.tri.specs.Labelling.{AreLabelled, decided_in}
use Rattle.events.specs.Standing.{Standing}
use Rattle.pair_sim.proofs.steps.put_fault.Goals as goal

pub returns : goal.returns
returns c =
    let s = c.args.events.now in
    let old = c.args.labelling.now in
    record {
      fault_is = refl;
      row = refl;
      netlist = ap (λ (t : Standing Label). t.netlist) c.forget.ensures ∙ c.settle_site.ensures.netlist;
      room = ap (λ (t : Standing Label). t.room) c.forget.ensures ∙ c.settle_site.ensures.room;
      trail = ap (λ (t : Standing Label). t.trail) c.forget.ensures;
      labelled = λ was. subst (λ (vs : List Label). AreLabelled c.args.fault (decided_in old.decided.items) s.netlist c.args.holds.now vs)
          (sym (ap (λ (t : Standing Label). t.values) c.forget.ensures)) (c.settle_site.ensures.labelled old.fault c.requires.same was);
    }
