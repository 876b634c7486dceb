-- What a look at a step stands on.
use Rattle.std.specs.Prelude.{ℕ, ◌≡◌, ◌≤◌, length}
use Rattle.std.specs.List.{All}
use Rattle.statement.specs.declared.lines.Fault.{Fault}
use Rattle.statement.specs.Netlists.{Netlist, signals}
use Rattle.netlist.specs.Conditions.{IsSound}
use Rattle.netlist.specs.Lines.{IsLineOf}
use Rattle.refutation.specs.Refutations.{clauses}
use Rattle.refutation_check.specs.declared.bases.Basis.{Basis}
use Rattle.refutation_check.specs.inner.Reasons.{AreWithin}
use Rattle.refutation_check.specs.inner.Sweeps.{IsCalm}
use Rattle.refutation_check.specs.inner.Trails.{Trailed}

-- sets of a netlist's signals for a fault of it: what gates allow less lies beside what the trail has from this place on
pub record AreSetsFor (n : Netlist) (f : Fault) (from : ℕ) (t : Trailed) : Type 0 where
  pub sound : IsSound n
  pub line : IsLineOf n f.line
  pub size : length t.told ≡ length (signals n)
  pub begun : from ≤ length t.trail
  pub calm : IsCalm n f t from

-- and the clauses that are known name signals of the netlist
pub record IsBasisOf (t : Trailed) (b : Basis) : Type 0 where
  pub sets : AreSetsFor b.netlist.now b.fault.now b.from t
  pub lemmas : All (AreWithin (length (signals b.netlist.now))) (clauses b.lemmas.now)
