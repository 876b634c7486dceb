use Rattle.std.proofs.Common.{◌∙◌, ℕ, Bool, List, ap₂, refl, subst}
use Rattle.statement.specs.declared.lines.Fault.{Fault}
use Rattle.word_sim.specs.Never.{unmarked}
use Rattle.run_files.specs.inner.Searches.{IsGoalOf}
use Rattle.run_files.proofs.searching.left_beside.Goals as goal

pub returns : goal.returns
returns c =
    let a = c.args.asked.now in
    let left = c.in_ok-goal.goal in
    record {
      found = refl;
      exactly = c.in_ok-faults.ensures.exactly ∙ ap₂ (λ (ms : List Bool) (fs : List Fault). unmarked ms fs) c.deref-2.ensures.value c.deref.ensures.value;
      goal = subst (λ (ms : List Bool). IsGoalOf c.args.percent a.count a.weights.items ms left) c.deref-4.ensures.value
          (subst (λ (ws : List ℕ). IsGoalOf c.args.percent a.count ws c.deref-4.result.now left) c.deref-3.ensures.value c.in_ok-goal.ensures);
    }
