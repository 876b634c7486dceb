use Rattle.std.proofs.Common.{List, length, ◌∙◌, ap, subst}
use Rattle.statement.specs.declared.kinds.Tri.{Tri}
use Rattle.scan_play.specs.Steps.{HasSteps}
use Rattle.lane_play.specs.declared.packed.Lanes.{Lanes}
use Rattle.lane_play.specs.inner.Shifts.{AreCommon}
use Rattle.lane_play.proofs.Machines.{common_size}
use Rattle.lane_play.proofs.ShiftLemmas.{planned_lanes}
use Rattle.lane_play.proofs.planning.plan_burst.Goals as goal

pub choose_steps-requires : goal.choose_steps-requires
choose_steps-requires c =
    ap length c.deref-3.ensures.value
    ∙ (common_size c.deref.result.now c.read_common.new.table.items c.in_ok-read_common.ensures ∙ (ap length c.deref.ensures.value ∙ c.in_ok-settle_still.ensures.size))

pub returns-clause-planned : goal.returns-clause-planned
returns-clause-planned c e =
    let n = c.args.core.now in
    let strobe = c.args.burst.now.strobe.items in
    let values = c.settle_still.new.values.items in
    let table = c.read_common.new.table.items in
    let steps = c.choose_steps.new.self.steps.items in
    planned_lanes c.args.rule.now.faults.now c.args.rule.now.few n c.args.burst.now.drive.items strobe table steps values c.in_ok-settle_still.ensures.still c.in_ok-settle_still.ensures.size
    (subst (λ (vs : List Lanes). AreCommon vs table) c.deref.ensures.value c.in_ok-read_common.ensures)
    (subst (λ (t : List Tri). HasSteps n strobe t steps) c.deref-3.ensures.value (subst (λ (s : List Tri). HasSteps n s c.deref-3.result.now steps) c.deref-2.ensures.value (c.in_ok-chosen.ensures e)))
