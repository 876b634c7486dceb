use Rattle.std.proofs.Common.{◌<◌, ℕ, length}
use Rattle.std.specs.List.{All, Contains}
use Rattle.statement.specs.Netlists.{signals}
use Rattle.refutation_check.specs.inner.Starting.{IsPlain}
use Rattle.refutation_check.proofs.starting.fixed.Given as goal

abbrev pub invariant-loop-x : goal.invariant-loop-x
invariant-loop-x l = record {
  within : All (λ x. x < length (signals l.netlist)) l.list.items;
  rest : (x : ℕ) → x < l.x → (Contains l.list.items x → ⊥) → IsPlain l.netlist l.holds x;
}
