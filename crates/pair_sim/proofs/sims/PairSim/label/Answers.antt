use Rattle.std.proofs.Common.{◌<◌, List, length, get_or, sym, ◌∙◌, ap, subst, arith}
use Rattle.std.specs.List.{Contains}
use Rattle.std.proofs.lemmas.List.{get_or_default}
use Rattle.statement.specs.Netlists.{signals}
use Rattle.netlist.specs.Conditions.{IsSound}
use Rattle.netlist.specs.Settled.{at}
use Rattle.netlist.proofs.Placed.{signal_below}
use Rattle.tri.specs.declared.labels.Label.{Label}
use Rattle.pair_sim.specs.Sims.{Sim, AreLabelsOf}
use Rattle.pair_sim.specs.inner.Levels.{blank}
use Rattle.pair_sim.proofs.sims.PairSim.label.Goals as goal

pub returns : goal.returns
returns c =
    let i = c.self.inside in
    let n = i.events.netlist in
    let sound : IsSound n = subst IsSound (c.netlist.ensures ∙ c.core.ensures) c.sound.ensures in
    let x = c.args.signal in
    let low = signal_below n sound.formed.numbered x (subst (λ (s : Sim). Contains (signals s.netlist) x) (sym c.self.view_is) c.requires) in
    let size = c.self.invariant.0.kept.labelled.size in
    let same = ap length c.values.ensures.values in
    let at_x = c.index.ensures in
    let inside : c.index.result < length c.values.result.now = omega arith in
    record {
      label = at i.events.values blank;
      are = subst (λ (s : Sim). AreLabelsOf s (at i.events.values blank)) c.self.view_is (c.self.invariant.0.kept.labelled.labels blank);
      is = sym (get_or_default c.values.result.now c.index.result _ blank inside
          ∙ (ap (λ (vs : List Label). get_or vs c.index.result blank) c.values.ensures.values ∙ ap (at i.events.values blank) c.index.ensures));
    }
