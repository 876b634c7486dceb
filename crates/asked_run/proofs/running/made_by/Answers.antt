use Rattle.std.proofs.Common.{IfOk, subst}
use Rattle.run_files.specs.Runs.{IsRun, asked_by}
use Rattle.run_files.specs.declared.asked.RunPlan.{RunPlan}
use Rattle.asked_run.proofs.running.made_by.Goals as goal

pub returns : goal.returns
returns g c =
    subst (λ (p : RunPlan). IfOk c.make_files.result (IsRun c.args.task.now.core.now (asked_by p c.args.wanted c.args.task.now.holds.now g.E.Engine.refutes))) c.plan_of.ensures
    c.make_files.ensures
