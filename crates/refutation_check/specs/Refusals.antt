-- Why a refutation is refused.
use Rattle.std.specs.Prelude.{ℕ, ⊤, ◌≢◌, ◌<◌, Bool, List, length}
use Rattle.statement.specs.declared.lines.Fault.{Fault}
use Rattle.statement.specs.Netlists.{Netlist}
use Rattle.statement.specs.Patterns.{Holds}
use Rattle.refutation.specs.Steps.{Step}
use Rattle.refutation.specs.Cones.{IsCone}
use Rattle.refutation.specs.Refutations.{Told, start, HoldsAt, AllHold, EndsEmpty, Refutes}
use Rattle.refutation_check.specs.declared.faults.RefutationFault.{RefutationFault}
use Rattle.refutation_check.specs.declared.faults.RefutationFault.TheVariants.{BadStep, Unfinished, NoMemory}

-- step k is the first one that doesn't hold
pub record IsFirstBad (n : Netlist) (f : Fault) (told : Told) (steps : List Step) (k : ℕ) : Type 0 where
  pub within : k < length steps
  pub before : (j : ℕ) → j < k → HoldsAt n f told steps j
  pub bad : ¬ HoldsAt n f told steps k

-- so, or each step holds, and the last clause isn't empty, or there is none
abbrev pub AreRefused : Netlist → Fault → Told → List Step → RefutationFault → Type 0
AreRefused n f told steps (BadStep k) = IsFirstBad n f told steps k
AreRefused n f told steps Unfinished = AllHold n f told steps × ¬ EndsEmpty steps
AreRefused n f told steps NoMemory = ⊤

-- when a refutation is refused
abbrev pub IsRefutationFault : Fault → Netlist → Holds → List Step → RefutationFault → Type 0
IsRefutationFault f n holds steps (BadStep k) = (cone : ℕ → Bool) × IsCone n f.line cone × IsFirstBad n f (start n holds f cone) steps k
IsRefutationFault f n holds steps Unfinished = (cone : ℕ → Bool) × IsCone n f.line cone × AllHold n f (start n holds f cone) steps × ¬ EndsEmpty steps
IsRefutationFault f n holds steps NoMemory = ⊤

-- What is refused for a cause other than memory doesn't refute the fault.
abbrev pub RefusedRefutesNothing : Type 0
RefusedRefutesNothing =
    (f : Fault) (n : Netlist) (holds : Holds) (steps : List Step) (fault : RefutationFault) → fault ≢ NoMemory → IsRefutationFault f n holds steps fault → ¬ Refutes f n holds steps
