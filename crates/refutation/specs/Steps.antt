-- The steps of a refutation. (Clauses that follow by unit propagation, each with the reasons in order: the proofs of Cruz-Filipe, Heule, Hunt,
-- Kaufmann and Schneider-Kamp, Efficient certified RAT verification, 2017. Here a reason is a gate of the netlist, and not a clause for it.)
use Rattle.std.specs.Prelude.{List}
use Rattle.refutation.specs.declared.steps.Literal.{Literal}
use Rattle.refutation.specs.declared.steps.Move.{Move}
use Rattle.refutation.specs.declared.steps.Reason.{Reason}

pub record Step : Type 0 where
  pub clause : List Literal
  pub moves : List Move
  pub last : Reason
