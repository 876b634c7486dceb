use Rattle.std.proofs.Common.{◌++◌, List, length, map, refl, ◌∙◌, ap, subst, arith}
use Rattle.statement.specs.declared.kinds.Tri.{Tri}
use Rattle.statement.specs.declared.kinds.Tri.TheVariants.{X}
use Rattle.statement.specs.Netlists.{Netlist}
use Rattle.statement.specs.Values.{known}
use Rattle.scan_play.specs.Steps.{HasSteps}
use Rattle.scan_play.proofs.PlanLemmas.{planned_driven}
use Rattle.scan_play.proofs.playing.plan_burst.Goals as goal

pub returns-clause-planned : goal.returns-clause-planned
returns-clause-planned c e =
    let n : Netlist = c.args.core.now in
    let drive = c.args.burst.now.drive.items in
    let values = c.settle_into.new.values.items in
    record {
      base = values;
      settles = planned_driven c.args.rule.now.fault n drive c.clear.new.self.items c.push_known.new.values.items c.push_unknowns.new.values.items c.deref-2.result.now c.args.idle.now values
          (length c.inputs.result.now) c.len.result (ap length c.inputs.ensures ∙ ap (λ (m : Netlist). length m.inputs) c.netlist.ensures)
          (let e = c.len.ensures in let o = c.args.burst.now.drive.ok.0 in omega arith) c.clear.ensures.items (c.in_ok-push_known.ensures ∙ ap (λ x. c.clear.new.self.items ++ map known x) c.deref.ensures.value) c.in_ok-push_unknowns.ensures c.deref-2.ensures.value c.requires.idle (c.in_ok-settle_into.ensures.settled X);
      has = subst (λ (vs : List Tri). HasSteps n c.args.burst.now.strobe.items vs c.choose_steps.new.self.steps.items) c.deref-4.ensures.value
          (subst (λ (s : List Tri). HasSteps n s c.deref-4.result.now c.choose_steps.new.self.steps.items) c.deref-3.ensures.value (c.in_ok-chosen.ensures e));
      size = c.in_ok-settle_into.ensures.size;
      stand = λ x s. refl;
    }
