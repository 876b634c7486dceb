use Rattle.std.proofs.Common.{List, MatchOption, ℕ, subst, sym}
use Rattle.report.specs.declared.models.FaultModel.{FaultModel}
use Rattle.report.specs.inner.Faults.{EndsAt}
use Rattle.report.proofs.fault_words.before_end.Goals as goal

pub returns-in-StuckAt : goal.returns-in-StuckAt
returns-in-StuckAt c =
    subst (λ (m : FaultModel). MatchOption c.before_stuck.result ((front rest : List ℕ) → EndsAt m c.args.text.now front rest → ⊥) (λ p. EndsAt m c.args.text.now p.0.now p.1.now))
    (sym c.in-StuckAt.is) c.before_stuck.ensures

pub returns-in-Transition : goal.returns-in-Transition
returns-in-Transition c =
    subst (λ (m : FaultModel). MatchOption c.before_slow.result ((front rest : List ℕ) → EndsAt m c.args.text.now front rest → ⊥) (λ p. EndsAt m c.args.text.now p.0.now p.1.now))
    (sym c.in-Transition.is) c.before_slow.ensures
