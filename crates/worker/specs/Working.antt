-- When a list is done.
use Rattle.std.specs.Prelude.{ℕ, ◌≡◌, ◌<◌, ◌≤◌, ◌⊎◌, Bool, false, List, Option, Some, None, length}
use Rattle.statement.specs.Patterns.{Holds}
use Rattle.netlist.specs.Holds.{AreHoldsOf}
use Rattle.statement.specs.Netlists.{Netlist}
use Rattle.list_core.specs.Subjects.{Subject, HaveLines}
use Rattle.list_core.specs.declared.goals.Goal.{Goal}
use Rattle.list_core.specs.declared.verdicts.Verdict.{Verdict}
use Rattle.list_core.specs.Enough.{IsEnough}
use Rattle.list_core.specs.Verdicts.{verdict_at, is_open}

-- its classes may be searched on this netlist with these held inputs, by an engine that answers refutations or doesn't
abbrev pub MaySearch : Subject → Netlist → Holds → Bool → Type 0
MaySearch j n holds refutes = (n ≡ j.netlist) × HaveLines j × (1 ≤ j.limit) × (holds ≡ j.holds) × AreHoldsOf n holds × (refutes ≡ j.refutes)

-- no class is Open
abbrev pub NoneOpen : List Verdict → Type 0
NoneOpen verdicts = (class : ℕ) → class < length verdicts → is_open (verdict_at verdicts class) ≡ false

abbrev pub NoneOpenBelow : ℕ → List Verdict → Type 0
NoneOpenBelow n verdicts = (class : ℕ) → class < n → is_open (verdict_at verdicts class) ≡ false

-- no class is Open, or enough is detected, where there is a goal
abbrev pub IsDone : Option Goal → List Verdict → Type 0
IsDone None verdicts = NoneOpen verdicts
IsDone (Some goal) verdicts = NoneOpen verdicts ⊎ IsEnough goal verdicts
