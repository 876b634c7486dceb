-- A line more.
use Rattle.std.specs.Prelude.{ℕ, ◌≡◌, List, [], ◌∷◌, ◌++◌}
use Rattle.statement.specs.declared.lines.Fault.{Fault}
use Rattle.statement.specs.Netlists.{Netlist}
use Rattle.statement.specs.Reports.{Line}
use Rattle.transition_tests.specs.declared.verdicts.TransitionVerdict.{TransitionVerdict}
use Rattle.transition_tests.specs.Lines.{IsVerdictLine}

-- the line of a fault with this verdict stands behind the others
pub record IsAdded (n : Netlist) (chains : List (List ℕ)) (f : Fault) (v : TransitionVerdict) (old new : List Line) : Type 0 where
  pub line : Line
  pub is_line : IsVerdictLine n chains (f, v) line
  pub behind : new ≡ old ++ line ∷ []
