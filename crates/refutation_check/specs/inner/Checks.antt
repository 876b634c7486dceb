-- What a check of a step finds.
use Rattle.std.specs.Prelude.{◌≡◌, ◌↔◌, List, ◌∷◌}
use Rattle.statement.specs.declared.lines.Fault.{Fault}
use Rattle.statement.specs.Netlists.{Netlist}
use Rattle.refutation.specs.declared.steps.Literal.{Literal}
use Rattle.refutation.specs.declared.steps.Move.{Move}
use Rattle.refutation.specs.declared.steps.Reason.{Reason}
use Rattle.refutation_check.specs.declared.checks.Played.{Played}
use Rattle.refutation_check.specs.declared.checks.Played.TheVariants.{On, Ends, Fails}
use Rattle.refutation.specs.Steps.{Step}
use Rattle.refutation.specs.Refutations.{Told, Leads, StepHolds, learned}

-- the step holds where the signals may have these pairs and these clauses are known, and then its own is known
pub record IsTaken (n : Netlist) (f : Fault) (lemmas : List (List Literal)) (step : Step) (old new : Told) : Type 0 where
  pub holds : StepHolds n f lemmas old step
  pub now : new ≡ learned old step.clause

-- What comes of a move: what follows is to be seen from there; or gates leave nothing, so that nothing follows; or it isn't so.
abbrev pub IsPlayed : Netlist → Fault → List (List Literal) → Told → Move → Told → Played → Type 0
IsPlayed n f lemmas old played new On = (rest : List Move) (last : Reason) → Leads n f lemmas new rest last ↔ Leads n f lemmas old (played ∷ rest) last
IsPlayed n f lemmas old played new Ends = (rest : List Move) (last : Reason) → Leads n f lemmas old (played ∷ rest) last
IsPlayed n f lemmas old played new Fails = (rest : List Move) (last : Reason) → ¬ Leads n f lemmas old (played ∷ rest) last
